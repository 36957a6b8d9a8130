-- `cheap::factor::power` meets its contract: what it reads of the tables is what the definition has, and at most 2 ^ 31.
use mathlib.Core.Path.{◌≡◌}
use Prim.Native.Nat.{ℕ, ◌-◌, ◌*◌, ◌/◌, ◌%◌, ◌≤◌}
use native.Mathlib.Nat.{mul-le-mul}
use native.Mathlib.Omega.{arith}
use lib.ListN.{get_or}
use Rattle.logarithm.specs.Logarithms.{short_row, middle_base, upper_base}
use Rattle.logarithm.proofs.Rows.{middle-le, upper-le, short-row-le}
use Rattle.cheap.proofs.factor.power.Goals as goal
use Rattle.cheap.proofs.factor.power.Goals.{Start}

module _ (c : Start) where
  abbrev x : ℕ
  x = c.args.x

  abbrev upper : ℕ
  upper = get_or c.args.tables.rows.now.short_uppers (x / 140737488355328) 0

  abbrev middle : ℕ
  middle = get_or c.args.tables.rows.now.short_middles (x / 137438953472 % 1024) 0

  upper_is : upper ≡ short_row upper_base (x / 140737488355328)
  upper_is = c.args.tables.short_uppers_are (x / 140737488355328) (omega (arith, c.requires))

  middle-is : middle ≡ short_row middle_base (x / 137438953472 % 1024)
  middle-is = c.args.tables.short_middles_are (x / 137438953472 % 1024) (omega arith)

  rows-le : upper * middle ≤ 2147483648 * 2147483648
  rows-le =
      let a : upper ≤ 2147483648 = omega (arith, upper_is, short-row-le upper_base upper-le (x / 140737488355328)) in
      let b : middle ≤ 2147483648 = omega (arith, middle-is, short-row-le middle_base middle-le (x / 137438953472 % 1024)) in
      mul-le-mul a b

  last-le : upper * middle / 2147483648 * (2147483647 - x % 137438953472 / 1048576) ≤ 2147483648 * 2147483648
  last-le =
      let two : upper * middle / 2147483648 ≤ 2147483648 = omega (arith, rows-le) in
      let line : 2147483647 - x % 137438953472 / 1048576 ≤ 2147483648 = omega arith in
      mul-le-mul two line

pub overflow_mul-two : goal.overflow_mul-two
overflow_mul-two c = omega (arith, rows-le (goal.at.overflow_mul-two c).Start)

pub overflow_mul-result : goal.overflow_mul-result
overflow_mul-result c = omega (arith, last-le (goal.at.overflow_mul-result c).Start)
