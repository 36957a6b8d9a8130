-- Net amounts mapped to the ends of their buckets are worth no more than they are in any scenario, but for their spare.
use mathlib.Core.Path.{◌≡◌, refl, ap, ◌∙◌}
use mathlib.Core.List.{List, [], ◌∷◌, map}
use Prim.Native.Nat.{ℕ, suc, ◌+◌, ◌*◌, ◌/◌, ◌≤◌, ◌<◌}
use native.Mathlib.Nat.{div-mul-le_self, lt-div-mul-add}
use native.Mathlib.Omega.{arith}
use lib.Dec.{lit<}
use lib.IntN.{ℤ, pos, nat_abs}
use lib.ListN.{length, length-replicate}
use Rattle.laws.specs.Distance.{Below}
use Rattle.laws.proofs.Integer.{int}
use Rattle.discount.specs.declared.Flow.{Flow}
use Rattle.discount.specs.Flows.{sum}
use Rattle.curve.specs.declared.Curve.{Curve}
use Rattle.curve.specs.declared.Components.{Components}
use Rattle.curve.specs.Limits.{ProperCurve}
use Rattle.curve.specs.Rates.{nodes_of}
use Rattle.curve.specs.Scenarios.{scenario_count, scenario_at}
use Rattle.curve.specs.Stress.{stressed}
use Rattle.curve.proofs.Rates.{rate-limit, each-limits}
use Rattle.curve.proofs.Scenarios.{scenarios-some}
use Rattle.curve.proofs.Stress.{each-stressed}
use Rattle.netting.specs.Netting.{no_nets, net_on, listed, net_value, net_size, cheap_on, OnDays}
use Rattle.netting.proofs.Sizes.{nets-length, net-size}
use Rattle.estimate.specs.Values.{scenario_value}
use Rattle.bucket.specs.Mapped.{allowance, mapped, net_flows}
use Rattle.bucket.proofs.NearLines.{Meets}
use Rattle.bucket.proofs.Mapping.{mapped-below, sum-mapped}
use Rattle.mapping.specs.declared.segments.Segment.{Segment}
use Rattle.mapping.specs.Segments.{Grid, Segments, rates_in, bucket_in}
use Rattle.mapping.specs.Mapping.{mapped_nets, spare_of, LowNets, Mappable}
use Rattle.mapping.proofs.SegmentBuckets.{buckets-meet}
use Rattle.mapping.proofs.MappedDays.{Placed, listed-placed}

-- ---- net amounts as flows

on-days : (nets : List ℤ) (ds : List ℕ) → Placed ds → OnDays (net_flows nets ds)
on-days nets [] p = tt
on-days nets (d ∷ ds) p = (omega (arith, p.0), on-days nets ds p.1)

flows-size : (nets : List ℤ) (ds : List ℕ) → sum (λ f. f.amount) (net_flows nets ds) ≡ net_size nets ds
unfolding sum net_size
flows-size nets [] = refl
flows-size nets (d ∷ ds) = omega (arith, flows-size nets ds)

flows-length : (nets : List ℤ) (ds : List ℕ) → length (net_flows nets ds) ≡ length ds
flows-length nets [] = refl
flows-length nets (d ∷ ds) = ap suc (flows-length nets ds)

-- a quotient of each is no more than that of all
millionths : (n : ℕ) → (n / 1000000 * 1000000 ≤ n) × (n < n / 1000000 * 1000000 + 1000000)
millionths n = (div-mul-le_self n 1000000, lt-div-mul-add (lit< tt))

allowed : (nets : List ℤ) (ds : List ℕ) → sum (λ f. allowance f.amount) (net_flows nets ds) ≤ spare_of nets ds
unfolding sum net_size allowance spare_of
allowed nets [] = omega arith
allowed nets (d ∷ ds) =
    omega
    (arith, allowed nets ds, millionths (nat_abs (net_on nets d)), millionths (net_size nets ds), millionths (nat_abs (net_on nets d) + net_size nets ds))

-- ---- a curve's

module _ (c : Curve) (p : ProperCurve c) (x : Components) (segments : List Segment) (listing : Segments c x segments) where
  meets : (s : ℕ) → s < scenario_count x → (day : ℕ) → day ≤ 10950 → Meets (rates_in c x s) day (bucket_in segments day)
  meets s k day d = buckets-meet c x s k day d segments listing.each

  pub grid : Grid segments
  grid =
      record {
        limits = record { each = λ i k. (listing.each i k).limits };
        buckets = λ day d. (meets 0 (scenarios-some x) day d).limits;
      }

  rated : (s day : ℕ) → rates_in c x s day ≤ 1000000
  rated s day =
      rate-limit (map (stressed (scenario_at x s)) (nodes_of c)) day (each-stressed (scenario_at x s) (nodes_of c) (each-limits c p))

  module _ (nets : List ℤ) (days : List ℕ) (m : Mappable nets days) where
    abbrev flows : List Flow
    flows = net_flows nets days

    on : OnDays flows
    on = on-days nets days (rw m.list (listed-placed nets m.places))

    abbrev low : List ℤ
    low = mapped_nets segments nets days

    low-size : net_size low (listed low) ≤ 140000000000000000
    low-size =
        let all = sum-mapped (rates_in c x 0) (rated 0) (bucket_in segments) (meets 0 (scenarios-some x)) flows on in
        omega (arith, net-size (mapped (bucket_in segments) flows), all, flows-size nets days, m.size, m.few, flows-length nets days)

    low_below : (s : ℕ) → s < scenario_count x → Below (scenario_value c x low s) (scenario_value c x nets s) (spare_of nets days)
    low_below s k =
        let found = mapped-below (rates_in c x s) (rated s) (bucket_in segments) (meets s k) nets days on in
        let fine : net_value (cheap_on (rates_in c x s)) nets days ≡ scenario_value c x nets s = ap (net_value (cheap_on (rates_in c x s)) nets) m.list in
        wide _ _ _ _ (rw fine at found) (allowed nets days)
      where
        wide : (a b : ℤ) (t r : ℕ) → Below a b t → t ≤ r → Below a b r
        wide a b t r h l = omega (int, h)

    pub mapped-low : LowNets c x nets days low
    mapped-low =
        record {
          places = nets-length (mapped (bucket_in segments) flows) no_nets ∙ length-replicate 10951 (pos 0);
          size = low-size;
          below = low_below;
        }
