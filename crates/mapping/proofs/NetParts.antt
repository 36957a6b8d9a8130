-- The parts of a net amount in its bucket, and net amounts with them: 64 bits hold them.
use mathlib.Core.Path.{◌≡◌, ◌∙◌}
use mathlib.Core.List.{List}
use Prim.Native.Nat.{ℕ, ◌+◌, ◌*◌, ◌/◌, ◌≤◌, ◌<◌}
use native.Mathlib.Nat.{mul-le-mul, mul-le-mul_left, div-le_of_le-mul}
use native.Mathlib.Decide.{ℕ_discrete}
use native.Mathlib.Omega.{arith}
use lib.IntN.{ℤ, pos, nat_abs, ◌+ℤ◌}
use lib.ListN.{length, length-set, set}
use lib.Seq.{get_or-set_same, get_or-set_other}
use Rattle.discount.specs.declared.Flow.{Flow}
use Rattle.discount.specs.Flows.{signed}
use Rattle.netting.specs.Netting.{net_on, net_with}
use Rattle.netting.proofs.Sizes.{signed-more}
use Rattle.bucket.specs.declared.buckets.Bucket.{Bucket}
use Rattle.bucket.specs.Mapped.{BucketLimits, first_flow, last_flow, last_part, excess, excess_flow}
use Rattle.mapping.specs.Mapping.{mapped_with, NetFlowLimits}

-- ---- the parts of a flow in its bucket

module _ (f : Flow) (k : Bucket) (s : NetFlowLimits f) (l : BucketLimits k) where
  pub gone-bound : f.amount * k.gone ≤ 139000000000000000 * 32
  gone-bound = mul-le-mul {n₂ = 139000000000000000} {m₂ = 32} s.amount (omega (arith, l.few))

  pub part-le : last_part k f.amount ≤ f.amount
  unfolding last_part
  part-le = div-le_of_le-mul (k.gone + k.left) (go k.left)
    where
      go : (v : ℕ) → f.amount * k.gone ≤ (k.gone + v) * f.amount
      go v = omega arith

  pub first-limits : NetFlowLimits (first_flow k f)
  first-limits = record { amount = omega (arith, s.amount); day = l.first }

  pub last-limits : NetFlowLimits (last_flow k f)
  last-limits = record { amount = omega (arith, part-le, s.amount); day = l.last }

  excess-le : excess k f.amount ≤ f.amount + 1
  unfolding excess
  excess-le =
      let few : k.error ≤ 4294967296 = omega (arith, l.error) in
      let less : f.amount * k.error / 4294967296 ≤ f.amount = div-le_of_le-mul 4294967296 (omega (arith, mul-le-mul_left f.amount few)) in
      omega arith

  pub excess-limits : NetFlowLimits (excess_flow k f)
  unfolding excess
  excess-limits =
      record { amount = omega (arith, mul-le-mul {n₂ = 139000000000000000} {m₂ = 4000000} s.amount l.error); day = l.first }

  -- ---- added one after the other

  -- a flow moves each day's net amount by no more than its amount
  net-moved : (nets : List ℤ) (g : Flow) → g.day < length nets → (day : ℕ) → nat_abs (net_on (net_with nets g) day) ≤ nat_abs (net_on nets day) + g.amount
  unfolding net_with
  net-moved nets g h day = go (ℕ_discrete day g.day)
    where
      y : ℤ
      y = net_on nets g.day +ℤ signed g.received g.amount

      go : Dec (day ≡ g.day) → nat_abs (net_on (set nets g.day y) day) ≤ nat_abs (net_on nets day) + g.amount
      go (yes e) = rw (e, get_or-set_same nets g.day y (pos 0) h) (signed-more (net_on nets g.day) g.received g.amount)
      go (no e) = rw (get_or-set_other nets g.day day y (pos 0) e) (omega arith)

  net-length : (nets : List ℤ) (g : Flow) → length (net_with nets g) ≡ length nets
  unfolding net_with
  net-length nets g = length-set nets g.day _

  module _ (nets : List ℤ) (places : length nets ≡ 10951) where
    abbrev one : List ℤ
    one = net_with nets (first_flow k f)

    abbrev two : List ℤ
    two = net_with one (last_flow k f)

    pub one-length : length one ≡ 10951
    one-length = net-length nets (first_flow k f) ∙ places

    pub two-length : length two ≡ 10951
    two-length = net-length one (last_flow k f) ∙ one-length

    pub mapped-length : length (mapped_with nets f k) ≡ 10951
    mapped-length = net-length two (excess_flow k f) ∙ two-length

    pub one-moved : (day : ℕ) → nat_abs (net_on one day) ≤ nat_abs (net_on nets day) + f.amount
    one-moved day = omega (arith, net-moved nets (first_flow k f) (omega (arith, l.first, places)) day)

    pub two-moved : (day : ℕ) → nat_abs (net_on two day) ≤ nat_abs (net_on nets day) + f.amount
    two-moved day =
        omega
        (arith, net-moved nets (first_flow k f) (omega (arith, l.first, places)) day, net-moved one (last_flow k f) (omega (arith, l.last, one-length)) day, part-le)

    pub mapped-moved : (day : ℕ) → nat_abs (net_on (mapped_with nets f k) day) ≤ nat_abs (net_on nets day) + (2 * f.amount + 1)
    mapped-moved day = omega (arith, two-moved day, net-moved two (excess_flow k f) (omega (arith, l.first, two-length)) day, excess-le)
