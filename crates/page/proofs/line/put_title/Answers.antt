-- `page::line::put_title` meets its contract: the account, blanks, the line feed.
use mathlib.Core.Path.{◌≡◌}
use mathlib.Core.List.{[]}
use Prim.Native.Nat.{◌+◌, ◌-◌, ◌*◌}
use native.Mathlib.Omega.{arith}
use lib.ListN.{length}
use Rattle.text.specs.Text.{ascii, figure}
use Rattle.page.specs.Line.{title_line}
use Rattle.page.proofs.LineWritten.{line-written, no-amount}
use Rattle.page.proofs.line.put_title.Goals as goal

pub returns : goal.returns
unfolding title_line ascii
returns c =
    let left = figure "account " c.args.account in
    let gap : c.args.at + 80 - c.put_number-left.result ≡ 80 - 22 * 0 - length left = omega (arith, c.put_number-left.ensures.text_written.place) in
    line-written left [] _ gap c.put_number-left.ensures.text_written c.put_blanks-end.ensures (no-amount _ _) c.put_text.ensures
