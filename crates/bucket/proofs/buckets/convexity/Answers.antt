-- `bucket::buckets::convexity` meets its contract: the products of its numbers fit 64 bits.
use Prim.Native.Nat.{ℕ, ◌+◌, ◌*◌, ◌/◌, ◌≤◌}
use native.Mathlib.Nat.{mul-le-mul}
use native.Mathlib.Omega.{arith}
use Rattle.bucket.proofs.buckets.convexity.Goals as goal
use Rattle.bucket.proofs.buckets.convexity.Goals.{Start}

module _ (c : Start) where
  abbrev part : ℕ
  part = ((364 + (2251799814 * c.args.jump + 9700000) * c.args.day + (2251799814 * c.args.most + 9700000) * c.args.span) / 365 + 1) / 2147483648 + 1

  part-square : part * part ≤ 800000 * 800000
  part-square =
      let far : (2251799814 * c.args.jump + 9700000) * c.args.day ≤ 45036005980000 * 10950 = mul-le-mul {n₂ = 45036005980000} {m₂ = 10950} (omega arith) c.requires.3 in
      let longest : (2251799814 * c.args.most + 9700000) * c.args.span ≤ 2251799823700000 * 32 = mul-le-mul {n₂ = 2251799823700000} {m₂ = 32} (omega arith) c.requires.2 in
      let few : part ≤ 800000 = omega arith in
      mul-le-mul few few

  off-le : ((1456 + 4 * (c.args.day * (2261499814 + 2252 * (c.args.jump * c.args.jump))) + c.args.span * (2251799814 * c.args.jump + 9700000)) / 1460 + 1) / 524288 ≤ 60000000
  off-le =
      let square : c.args.jump * c.args.jump ≤ 20000 * 20000 = mul-le-mul {n₂ = 20000} {m₂ = 20000} c.requires.1 c.requires.1 in
      let line : c.args.day * (2261499814 + 2252 * (c.args.jump * c.args.jump)) ≤ 10950 * 903061499814 = mul-le-mul {n₂ = 10950} {m₂ = 903061499814} c.requires.3 (omega (arith, square)) in
      let segment : c.args.span * (2251799814 * c.args.jump + 9700000) ≤ 32 * 45036005980000 = mul-le-mul {n₂ = 32} {m₂ = 45036005980000} c.requires.2 (omega arith) in
      omega arith

pub overflow_add-bent-3 : goal.overflow_add-bent-3
overflow_add-bent-3 c = omega (arith, part-square (goal.at.overflow_add-bent-3 c).Start, off-le (goal.at.overflow_add-bent-3 c).Start)

pub overflow_add-result : goal.overflow_add-result
overflow_add-result c = omega (arith, part-square (goal.at.overflow_add-result c).Start, off-le (goal.at.overflow_add-result c).Start)

pub overflow_add-result-2 : goal.overflow_add-result-2
overflow_add-result-2 c = omega (arith, part-square (goal.at.overflow_add-result-2 c).Start, off-le (goal.at.overflow_add-result-2 c).Start)
