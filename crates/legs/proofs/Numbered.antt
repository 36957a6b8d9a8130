-- How many flows a leg has.
use mathlib.Core.Path.{◌≡◌}
use lib.ListN.{length}
use Rattle.laws.proofs.Walk.{length-table}
use Rattle.legs.specs.declared.Leg.{Leg}
use Rattle.legs.specs.Runs.{flow_of, leg_flows}

pub length-leg : (l : Leg) → length (leg_flows l) ≡ l.count
unfolding leg_flows
length-leg l = length-table (flow_of l) 0 l.count
