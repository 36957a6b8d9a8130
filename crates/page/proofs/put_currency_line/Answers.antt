-- `page::put_currency_line` meets its contract: its letters, blanks, three amounts, the line feed.
use mathlib.Core.Path.{◌≡◌}
use mathlib.Core.List.{[], ◌∷◌}
use Prim.Native.Nat.{◌-◌, ◌*◌}
use native.Mathlib.Omega.{arith}
use borrow.Author.Rules.{rules}
use mir.Syntax.{w64}
use mir.Val.{SFits}
use lib.ListN.{length}
use Rattle.layout.proofs.Signed.{code_read}
use Rattle.text.specs.Text.{letters}
use Rattle.text.proofs.Digits.{length-letters}
use Rattle.page.specs.Page.{currency_line}
use Rattle.page.proofs.LineWritten.{line-written}
use Rattle.page.proofs.put_currency_line.Goals as goal

pub returns : goal.returns
unfolding currency_line
returns c =
    let m = c.args.m in
    let i : SFits w64 m.initial = search rules in
    let v : SFits w64 m.variation = search rules in
    let t : SFits w64 m.total = search rules in
    let gap : 11 ≡ 80 - 22 * 3 - length (letters c.args.currency) = omega (arith, length-letters c.args.currency) in
    let three = rw (code_read _ i, code_read _ v, code_read _ t) at c.put_amounts-end.ensures.text_written in
    line-written (letters c.args.currency) (m.initial ∷ m.variation ∷ m.total ∷ []) 11 gap c.put_letters-left.ensures.text_written c.put_blanks-initial.ensures three c.put_text.ensures
