-- The sum is at most one.
use Prim.Native.Nat.{◌≤◌}
use Rattle.discount.proofs.guess.series.Given as goal

abbrev pub invariant-loop-i : goal.invariant-loop-i
invariant-loop-i l = l.s ≤ 1_000_000_000_000
