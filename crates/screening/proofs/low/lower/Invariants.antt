-- `screening::low::lower` meets its contract: the values passed are lowered.
use Rattle.screening.proofs.Lowering.{Lowering}
use Rattle.screening.proofs.low.lower.Given as goal

abbrev pub invariant-loop-value : goal.invariant-loop-value
invariant-loop-value l = Lowering l.spare l.initial.value-items l.value-items l.value-index
