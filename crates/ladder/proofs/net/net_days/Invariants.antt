-- `ladder::net::net_days` meets its contract, by the fold over the ladder's flows.
use Rattle.netting.specs.Netting.{net_with}
use Rattle.ladder.proofs.Folds.{Folded}
use Rattle.ladder.proofs.Netting.{DaysRoom}
use Rattle.ladder.proofs.net.net_days.Given as goal

abbrev pub invariant-loop-i : goal.invariant-loop-i
invariant-loop-i l = Folded net_with DaysRoom l.curve l.ladder l.schedules l.initial.nets l.nets l.i 0

abbrev pub invariant-loop-k : goal.invariant-loop-k
invariant-loop-k l = Folded net_with DaysRoom l.curve l.ladder l.schedules l.fn.nets l.nets l.i l.k
