-- `mapping::ranges::moved_apart` meets its contract.
use mathlib.Core.Path.{◌≡◌}
use Prim.Native.Nat.{◌≤◌}
use native.Mathlib.Omega.{arith}
use lib.IntN.{ℤ, nat_abs}
use Rattle.laws.proofs.Signed.{read, read_is}
use Rattle.mapping.specs.Ranges.{moved_apart}
use Rattle.mapping.proofs.ranges.moved_apart.Goals as goal

-- a node's own part of a component, read back from its bits
part : (z : ℤ) → nat_abs z ≤ 1000000 → read z ≡ z
part z h = read_is z (omega arith)

pub returns : goal.returns
unfolding moved_apart
returns c =
    let a = c.requires.0 in
    let b = c.requires.1 in
    let p = c.args.a in
    let q = c.args.b in (
      rw
          (c.moved_by-third.ensures.0, c.moved_by-second.ensures.0, c.moved_by-first.ensures.0, part p.first a.first, part p.second a.second, part p.third a.third, part q.first b.first, part q.second b.second, part q.third b.third),
      omega (arith, c.moved_by-third.ensures.1, c.moved_by-second.ensures.1, c.moved_by-first.ensures.1),
    )
