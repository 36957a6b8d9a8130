-- `screening::refine::refine` meets its contract: the scenarios passed are refined.
use Rattle.screening.proofs.Refining.{Refining}
use Rattle.screening.proofs.refine.refine.Given as goal

abbrev pub invariant-loop-s : goal.invariant-loop-s
invariant-loop-s l = Refining l.curve l.components l.nets l.limit l.initial.values l.values l.s
