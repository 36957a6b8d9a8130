-- `text::columns::put_money` meets its contract: its parts, one behind the other.
use mathlib.Core.Path.{◌≡◌}
use Prim.Native.Nat.{◌+◌, ◌/◌, ◌%◌}
use native.Mathlib.Omega.{arith}
use Rattle.text.specs.Text.{ascii}
use Rattle.text.specs.Columns.{money_text}
use Rattle.text.proofs.Digits.{decimal-one}
use Rattle.text.proofs.Writing.{written_byte, and_then}
use Rattle.text.proofs.columns.put_money.Goals as goal

pub returns : goal.returns
unfolding money_text ascii
returns c =
    let lira = c.put_counted-point in
    let n = c.args.n in
    let end : lira.result + 1 + 2 ≡ lira.result + 1 + 1 + 1 = omega arith in
    rw (decimal-one (n / 10 % 10) (omega arith), decimal-one (n % 10) (omega arith), end)
    (and_then (and_then (and_then lira.ensures (written_byte _ _ 46)) (written_byte _ _ _)) (written_byte _ _ _))
