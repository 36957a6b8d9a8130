-- `page::put_curve` meets its contract: its left part, blanks, three amounts, the line feed.
use mathlib.Core.Path.{◌≡◌}
use mathlib.Core.List.{[], ◌∷◌}
use Prim.Native.Nat.{◌+◌, ◌-◌, ◌*◌}
use native.Mathlib.Omega.{arith}
use borrow.Author.Rules.{rules}
use mir.Syntax.{w64}
use mir.Val.{SFits}
use lib.IntN.{pos}
use lib.ListN.{length}
use Rattle.laws.proofs.Signed.{cast_is}
use Rattle.layout.proofs.Signed.{code_read}
use Rattle.page.specs.Page.{curve_left, curve_line}
use Rattle.page.proofs.LineWritten.{line-written}
use Rattle.page.proofs.put_curve.Goals as goal

pub returns : goal.returns
unfolding curve_line
returns c =
    let m = c.args.m in
    let left = c.put_curve_left-left in
    let b : SFits w64 m.base = search rules in
    let w : SFits w64 m.worstloss = search rules in
    let text = curve_left c.args.id m in
    let gap : c.args.at + 14 - left.result ≡ 80 - 22 * 3 - length text = omega (arith, left.ensures.text_written.place) in
    let three = rw (code_read _ b, code_read _ w, cast_is m.tolerance c.requires.1.1.tolerance) at c.put_amounts-end.ensures.text_written in
    line-written text (m.base ∷ m.worstloss ∷ pos m.tolerance ∷ []) _ gap left.ensures.text_written c.put_blanks-base.ensures three c.put_text.ensures
