-- `estimate::values::fill_values` meets its contract: the scenarios passed have their values.
use Rattle.curve.proofs.Scenarios.{scenario-limits}
use native.Mathlib.Omega.{arith}
use Rattle.estimate.proofs.ListedDays.{rising-listed}
use Rattle.estimate.proofs.values.fill_values.Goals as goal

pub fill_ends-requires : goal.fill_ends-requires
fill_ends-requires c =
    let p = c.requires in
    (p.0, rising-listed _ _ p.2, p.0.most)

pub value_in-requires : goal.value_in-requires
value_in-requires c =
    let p = c.requires in
    (p.0, rw c.scenario-scenario.ensures (scenario-limits _ _ (omega (arith, c.loop-s-test.true, c.scenario_count-s-end.ensures)) p.1), c.fill_ends.ensures, p.2)
