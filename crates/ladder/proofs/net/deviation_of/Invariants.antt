-- `ladder::net::deviation_of` meets its contract, by the fold over the ladder's flows.
use Prim.Native.Nat.{◌+◌}
use Rattle.netting.specs.Netting.{flow_deviation}
use Rattle.ladder.specs.Totals.{RoomFor}
use Rattle.ladder.proofs.Folds.{Folded}
use Rattle.ladder.proofs.net.deviation_of.Given as goal

abbrev pub invariant-loop-i : goal.invariant-loop-i
invariant-loop-i l = Folded (λ off f. off + flow_deviation f) (RoomFor 200000) l.curve l.ladder l.schedules 0 l.off l.i 0

abbrev pub invariant-loop-k : goal.invariant-loop-k
invariant-loop-k l = Folded (λ off f. off + flow_deviation f) (RoomFor 200000) l.curve l.ladder l.schedules 0 l.off l.i l.k
