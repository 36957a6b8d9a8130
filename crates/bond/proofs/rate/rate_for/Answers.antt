-- `bond::rate::rate_for` meets its contract.
use native.Mathlib.Omega.{arith}
use borrow.Author.Rules.{rules}
use Rattle.bond.proofs.Halves.{left-all, left-high, left_one}
use Rattle.bond.proofs.rate.rate_for.Goals as goal

pub loop-low-init : goal.loop-low-init
loop-low-init c = left-all c.requires.cash_value

pub loop-low-preserved : goal.loop-low-preserved
loop-low-preserved c =
    left-high c.loop-low.invariant _ (search rules) (omega (arith, c.value_at.ensures))

pub returns : goal.returns
returns c = record { value = left_one c.loop-low.invariant c.loop-low-test.false; upper_bound = search rules }
