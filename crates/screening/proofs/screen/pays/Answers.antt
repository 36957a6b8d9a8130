-- `screening::screen::pays` meets its contract.
use native.Mathlib.Omega.{arith}
use Rattle.curve.proofs.Scenarios.{scenario-limits}
use Rattle.estimate.proofs.ListedDays.{rising-listed}
use Rattle.screening.proofs.screen.pays.Goals as goal

pub fill_ends-requires : goal.fill_ends-requires
fill_ends-requires c =
    let p = c.requires in
    (p.0, rising-listed _ _ p.2, p.0.most)

pub value_in-limit-requires : goal.value_in-limit-requires
value_in-limit-requires c =
    let p = c.requires in
    (p.0, rw c.scenario.ensures (scenario-limits _ _ (omega (arith, c.least_of-least.ensures.within, c.scenario_count-n.ensures)) c.outermost-few.ensures), c.fill_ends.ensures, p.2)
