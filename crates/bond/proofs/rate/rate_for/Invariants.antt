-- `bond::rate::rate_for` meets its contract.
use Prim.Native.Nat.{◌-◌}
use Rattle.curve.specs.Rates.{nodes_of}
use Rattle.legs.specs.Runs.{leg_flows}
use Rattle.bond.proofs.Halves.{Left}
use Rattle.bond.proofs.rate.rate_for.Given as goal

abbrev pub invariant-loop-low : goal.invariant-loop-low
invariant-loop-low l = Left (nodes_of l.e.curve) l.e.node (leg_flows l.e.payments) l.cash l.low l.high

abbrev pub decreases-loop-low : goal.decreases-loop-low
decreases-loop-low l = l.high - l.low
