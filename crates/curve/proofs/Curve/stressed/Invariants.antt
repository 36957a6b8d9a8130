-- `curve::Curve::stressed` meets its contract.
use Rattle.curve.proofs.Stress.{Partly}
use Rattle.curve.proofs.Curve.stressed.Given as goal

abbrev pub invariant-loop-i : goal.invariant-loop-i
invariant-loop-i l = Partly l.s l.self l.r l.i
