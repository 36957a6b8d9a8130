-- `curve::Curve::rate_at` meets its contract.
use Prim.Native.Nat.{◌+◌}
use Rattle.curve.proofs.Search.{Passed}
use Rattle.curve.proofs.Curve.rate_at.Given as goal

abbrev pub invariant-loop-b : goal.invariant-loop-b
invariant-loop-b l = Passed l.fn.self l.t l.a (l.b-index + 1)
