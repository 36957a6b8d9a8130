-- `exposure::gather` meets its contract. The invariant: the ladder holds the flows of the first i trades that stand on the curve.
use mathlib.Core.Path.{◌≡◌}
use lib.ListN.{length}
use Rattle.exposure.proofs.Collected.{Collected}
use Rattle.exposure.proofs.gather.Given as goal

abbrev pub invariant-loop-i : goal.invariant-loop-i
invariant-loop-i l = (length l.ladder ≡ length l.initial.ladder) × Collected l.book l.curve l.ladder l.schedules l.i
