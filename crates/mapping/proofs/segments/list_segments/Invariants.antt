-- `mapping::segments::list_segments` meets its contract.
use Rattle.mapping.proofs.SegmentLists.{Listing}
use Rattle.mapping.proofs.segments.list_segments.Given as goal

abbrev pub invariant-loop-i : goal.invariant-loop-i
invariant-loop-i l = Listing l.curve l.components l.segments l.i
