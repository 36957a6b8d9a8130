-- `estimate::values::fill_values` meets its contract: the scenarios passed have their values.
use Rattle.estimate.proofs.ScenarioValues.{Filled}
use Rattle.estimate.proofs.values.fill_values.Given as goal

abbrev pub invariant-loop-s : goal.invariant-loop-s
invariant-loop-s l = Filled l.curve l.components l.nets l.initial.values l.values l.s
