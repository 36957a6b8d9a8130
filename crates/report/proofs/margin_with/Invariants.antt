-- `report::margin_with` meets its contract. The invariant: the first k places hold the figures of the first k curves.
use mathlib.Core.Path.{◌≡◌}
use lib.ListN.{length}
use Rattle.report.proofs.Placed.{CurvesPlaced}
use Rattle.report.proofs.margin_with.Given as goal

abbrev pub invariant-loop-k : goal.invariant-loop-k
invariant-loop-k l = (length l.ladder ≡ length l.initial.ladder) × CurvesPlaced l.book l.curves l.k
