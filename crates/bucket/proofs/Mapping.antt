-- Mapped flows are worth no more than the flows, but for an allowance: chord by chord, since each flow's parts less its excess are.
use mathlib.Core.Path.{◌≡◌, refl}
use mathlib.Core.Bool.{Bool, true, false}
use mathlib.Core.List.{List, [], ◌∷◌}
use Prim.Native.Nat.{ℕ, ◌+◌, ◌*◌, ◌≤◌}
use native.Mathlib.Omega.{arith}
use lib.IntN.{ℤ, pos, negsuc, neg_ℤ, nat_abs, ◌+ℤ◌, +ℤ_idl}
use lib.ListN.{length}
use Rattle.laws.specs.Distance.{Below, Within}
use Rattle.laws.proofs.Integer.{int, plus, up_pos, down_pos, up_neg, down-neg}
use Rattle.discount.specs.declared.Flow.{Flow}
use Rattle.discount.specs.Flows.{signed, total, sum, flow_value}
use Rattle.cheap.specs.Cheap.{cheap_factor}
use Rattle.netting.specs.Netting.{no_nets, net_on, netted, listed, worth, net_value, cheap_on, deviation, flow_deviation, OnDays}
use Rattle.netting.proofs.Worths.{none-worth}
use Rattle.netting.proofs.NettedValue.{flow-within, netted-within}
use Rattle.bucket.specs.declared.buckets.Bucket.{Bucket}
use Rattle.bucket.specs.Mapped.{excess_flow, allowance, mapped, is_received, net_flow, net_flows}
use Rattle.bucket.proofs.NearLines.{Meets}
use Rattle.bucket.proofs.FlowParts.{chord_room, last-le, few-excess, flow-over, flow-under, all-allowed}

-- parts a and b less q, with x, are at most c with y, but for t and r
mapped-sum : (s : Bool) (a b q c t r : ℕ) (x y : ℤ) → a + b ≤ c + q + t → c ≤ a + b + q + t → Below x y r
    → Below (signed s a +ℤ (signed s b +ℤ (neg_ℤ (pos q) +ℤ x))) (signed s c +ℤ y) (t + r)
mapped-sum true a b q c t r x y h k w =
    omega
    (int, w, plus (neg_ℤ (pos q)) x, plus (pos b) (neg_ℤ (pos q) +ℤ x), plus (pos a) (pos b +ℤ (neg_ℤ (pos q) +ℤ x)), plus (pos c) y, up_neg (pos q), down-neg (pos q), up_pos q, down_pos q, up_pos a, down_pos a, up_pos b, down_pos b, up_pos c, down_pos c)
mapped-sum false a b q c t r x y h k w =
    omega
    (int, w, plus (neg_ℤ (pos q)) x, plus (neg_ℤ (pos b)) (neg_ℤ (pos q) +ℤ x), plus (neg_ℤ (pos a)) (neg_ℤ (pos b) +ℤ (neg_ℤ (pos q) +ℤ x)), plus (neg_ℤ (pos c)) y, up_neg (pos q), down-neg (pos q), up_pos q, down_pos q, up_neg (pos a), down-neg (pos a), up_neg (pos b), down-neg (pos b), up_neg (pos c), down-neg (pos c), up_pos a, down_pos a, up_pos b, down_pos b, up_pos c, down_pos c)

-- ---- a net amount as a flow

net-signed : (z : ℤ) → signed (is_received z) (nat_abs z) ≡ z
unfolding is_received
net-signed (pos n) = refl
net-signed (negsuc n) = refl

module _ (rate : ℕ → ℕ) (rated : (d : ℕ) → rate d ≤ 1000000) where
  -- the value of net amounts and of the flows that they are
  net-flows-within : (nets : List ℤ) (ds : List ℕ) → OnDays (net_flows nets ds)
      → Within (net_value (cheap_on rate) nets ds) (total (flow_value rate) (net_flows nets ds)) (sum flow_deviation (net_flows nets ds))
  unfolding net_value total sum
  net-flows-within nets [] on = omega (int, up_pos 0, down_pos 0)
  net-flows-within nets (d ∷ ds) on =
      let z = net_on nets d in
      let c : ℕ = cheap_factor (rate d) d in
      let v : ℤ = signed (is_received z) (flow_value rate (net_flow d z)) in
      let one : Within (worth c z) v (deviation (nat_abs z) d) =
      rw (+ℤ_idl (signed (is_received z) (nat_abs z)), net-signed z, none-worth c, +ℤ_idl v) at (flow-within (nat_abs z) (rate d) d (rated d) on.0 (pos 0) (is_received z)) in
      let rest = net-flows-within nets ds on.1 in
      omega (int, one, rest, plus (worth c z) (net_value (cheap_on rate) nets ds), plus v (total (flow_value rate) (net_flows nets ds)))

  -- ---- flows mapped

  module _ (buckets : ℕ → Bucket) (meets : (d : ℕ) → d ≤ 10950 → Meets rate d (buckets d)) where
    abbrev room : Flow → ℕ
    room f = chord_room f.amount

    total-mapped : (fs : List Flow) → OnDays fs → Below (total (flow_value rate) (mapped buckets fs)) (total (flow_value rate) fs) (sum room fs)
    unfolding total sum mapped
    total-mapped [] on = omega (int, up_pos 0, down_pos 0)
    total-mapped (f ∷ fs) on =
        let m = meets f.day on.0 in
        let k = buckets f.day in
        mapped-sum f.received _ _ (flow_value rate (excess_flow k f)) (flow_value rate f) (room f) _ _ _ (flow-over rate rated f.amount f.day on.0 k m.limits m.line) (flow-under rate rated f.amount f.day on.0 k m.limits m.line) (total-mapped fs on.1)

    all-sums : (fs : List Flow) → OnDays fs → sum room fs + sum flow_deviation fs + sum flow_deviation (mapped buckets fs) ≤ sum (λ f. allowance f.amount) fs
    unfolding sum mapped
    all-sums [] on = omega arith
    all-sums (f ∷ fs) on =
        let m = meets f.day on.0 in
        omega (arith, all-sums fs on.1, all-allowed rate rated f.amount f.day on.0 (buckets f.day) m.limits m.line)

    on-mapped : (fs : List Flow) → OnDays fs → OnDays (mapped buckets fs)
    unfolding mapped
    on-mapped [] on = tt
    on-mapped (f ∷ fs) on = let l = (meets f.day on.0).limits in (l.first, (l.last, (l.first, on-mapped fs on.1)))

    -- at cheap factors: net amounts mapped, and as they are
    pub mapped-below : (nets : List ℤ) (ds : List ℕ) → OnDays (net_flows nets ds)
        → Below (net_value (cheap_on rate) (netted (mapped buckets (net_flows nets ds)) no_nets) (listed (netted (mapped buckets (net_flows nets ds)) no_nets))) (net_value (cheap_on rate) nets ds) (sum (λ f. allowance f.amount) (net_flows nets ds))
    mapped-below nets ds on =
        let fs = net_flows nets ds in
        joined _ _ _ _ _ _ _ _ (netted-within rate rated (mapped buckets fs) (on-mapped fs on)).low (total-mapped fs on) (net-flows-within nets ds on).high (all-sums fs on)
      where
        joined : (a b c d : ℤ) (r s t n : ℕ) → Below a b r → Below b c s → Below c d t → s + t + r ≤ n → Below a d n
        joined a b c d r s t n h k l m = omega (int, h, k, l, m)

    -- ---- how much they are

    pub sum-mapped : (fs : List Flow) → OnDays fs → 786 * sum (λ f. f.amount) (mapped buckets fs) ≤ 787 * sum (λ f. f.amount) fs + 786 * length fs
    unfolding sum mapped
    sum-mapped [] on = omega arith
    sum-mapped (f ∷ fs) on =
        let m = meets f.day on.0 in
        let k = buckets f.day in
        omega (arith, sum-mapped fs on.1, last-le rate rated f.amount f.day on.0 k m.limits m.line, few-excess rate rated f.amount f.day on.0 k m.limits m.line)
