-- `margin::losses::curve_in` meets its contract.
use Rattle.curve.proofs.Scenarios.{scenario-limits}
use Rattle.margin.proofs.losses.curve_in.Goals as goal

pub stressed-requires : goal.stressed-requires
stressed-requires c =
    let p = c.requires in
    (p.0, rw c.scenario.ensures (scenario-limits _ _ p.2 p.1))
