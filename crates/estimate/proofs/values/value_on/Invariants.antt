-- `estimate::values::value_on` meets its contract: from node to node, what is valued and what is left are together all.
use Rattle.estimate.proofs.CurveValues.{Held}
use Rattle.estimate.proofs.values.value_on.Given as goal

abbrev pub invariant-loop-i : goal.invariant-loop-i
invariant-loop-i l = Held l.curve l.nets l.days l.ends l.i l.p
