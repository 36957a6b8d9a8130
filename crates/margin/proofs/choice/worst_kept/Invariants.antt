-- `margin::choice::worst_kept` meets its contract: of the scenarios passed that are kept, the worst is held.
use Prim.Native.Nat.{◌-◌, ◌≤◌}
use Rattle.discount.specs.Flows.{flow_value}
use Rattle.curve.specs.Scenarios.{scenario_count}
use Rattle.ladder.specs.Exposure.{exposure_of}
use Rattle.margin.specs.Losses.{loss_at}
use Rattle.margin.specs.Choice.{WorstKept}
use Rattle.margin.proofs.choice.worst_kept.Given as goal

abbrev pub invariant-loop-s : goal.invariant-loop-s
invariant-loop-s l =
    WorstKept (loss_at flow_value (exposure_of l.valued.position l.ladder)) l.values (l.limit) l.s l.worst × (l.s ≤ scenario_count l.valued.position.components)

abbrev pub decreases-loop-s : goal.decreases-loop-s
decreases-loop-s l = l.count - l.s
