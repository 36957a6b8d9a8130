-- `fine::factor::antilog` meets its contract: what it reads of the tables is what the definition has, and at most one.
use mathlib.Core.Path.{◌≡◌, refl}
use Prim.Native.Nat.{ℕ, ◌/◌, ◌%◌, ◌≤◌}
use native.Mathlib.Nat.{mul-le-mul}
use native.Mathlib.Omega.{arith}
use lib.ListN.{get_or}
use Rattle.logarithm.specs.Logarithms.{fine_whole, power_row, middle_base, upper_base}
use Rattle.logarithm.proofs.Rows.{middle-le, upper-le, power-row-le}
use Rattle.fine.specs.Fine.{scaled, antilog}
use Rattle.fine.proofs.Antilogs.{scaled-le}
use Rattle.fine.proofs.factor.antilog.Goals as goal
use Rattle.fine.proofs.factor.antilog.Goals.{Start}

module _ (c : Start) where
  abbrev upper : ℕ
  upper = get_or c.args.tables.rows.now.uppers (c.args.x / 140737488355328) 0

  abbrev middle : ℕ
  middle = get_or c.args.tables.rows.now.middles (c.args.x / 137438953472 % 1024) 0

  upper_is : upper ≡ power_row upper_base (c.args.x / 140737488355328)
  upper_is = c.args.tables.uppers_are _ (omega (arith, c.requires))

  middle-is : middle ≡ power_row middle_base (c.args.x / 137438953472 % 1024)
  middle-is = c.args.tables.middles_are _ (omega arith)

  upper-few : upper ≤ fine_whole
  upper-few = rw upper_is (power-row-le upper_base upper-le _)

  middle-few : middle ≤ fine_whole
  middle-few = rw middle-is (power-row-le middle_base middle-le _)

pub scaled-requires-clause-fits : goal.scaled-requires-clause-fits
unfolding fine_whole
scaled-requires-clause-fits c =
    let s = (goal.at.scaled-requires-clause-fits c).Start in
    omega (arith, mul-le-mul (upper-few s) (middle-few s))

pub returns : goal.returns
unfolding antilog scaled fine_whole
returns c =
    let s = (goal.at.returns c).Start in (
      rw (c.scaled-2.ensures, c.scaled.ensures, c.low_power-lowest.ensures.0, upper_is s, middle-is s) refl,
      rw (c.scaled-2.ensures, c.scaled.ensures) (scaled-le _ _ (scaled-le _ _ (upper-few s) (middle-few s)) c.low_power-lowest.ensures.1),
    )
