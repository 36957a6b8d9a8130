-- `estimate::ends::fill_ends` meets its contract: the nodes passed have their places.
use Rattle.estimate.proofs.Ending.{Ending}
use Rattle.estimate.proofs.ends.fill_ends.Given as goal

abbrev pub invariant-loop-i : goal.invariant-loop-i
invariant-loop-i l = Ending l.curve l.days l.initial.ends l.ends l.i
