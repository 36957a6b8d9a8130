-- `discount::daily::nearer` meets its contract: a power of q above the year's factor says that q is too large, one of the next number at most
-- the year's that it is too small.
use Prim.Native.Nat.{◌+◌}
use native.Mathlib.Omega.{arith}
use Rattle.discount.proofs.Roots.{root-lt, root_ge, root_below}
use Rattle.discount.proofs.daily.nearer.Goals as goal

pub overflow_sub-result : goal.overflow_sub-result
overflow_sub-result c =
    let y = c.args.yearly.0 in
    let q = c.args.q.0 in
    omega (arith, root-lt y q (omega (arith, c.if-yearly-ends.true, c.requires.2.low-is)))

pub returns-then-ends-yearly : goal.returns-then-ends-yearly
returns-then-ends-yearly c =
    let y = c.args.yearly.0 in
    let q = c.args.q.0 in
    omega (arith, root_ge y (q + 1) (omega arith) (omega (arith, c.if-ends-yearly.true, c.requires.2.high_is)), root_below y c.requires.0)
