-- The search for the bucket of a day; and its chord is near the day's factor in every scenario.
use mathlib.Core.Path.{◌≡◌}
use mathlib.Core.Bool.{Bool, true, false, cond}
use mathlib.Core.List.{List, [], ◌∷◌}
use Prim.Native.Nat.{ℕ, suc, ◌+◌, ◌≤◌, ◌<◌}
use native.Mathlib.Numerals.{add-one}
use native.Mathlib.Omega.{arith}
use borrow.Author.Tests.{lt-ltb, le-ltb}
use lib.Dec.{ltb}
use lib.ListN.{length, drop, drop_of_length-le}
use lib.Seq.{drop-cons}
use Rattle.curve.specs.declared.Curve.{Curve}
use Rattle.curve.specs.declared.Components.{Components}
use Rattle.curve.specs.Scenarios.{scenario_count}
use Rattle.bucket.specs.declared.buckets.Bucket.{Bucket}
use Rattle.bucket.specs.Buckets.{alone, bucket_on}
use Rattle.bucket.proofs.NearLines.{Meets, alone-meets, bucket-meets}
use Rattle.mapping.specs.declared.segments.Segment.{Segment}
use Rattle.mapping.specs.Segments.{segment_at, rates_in, CurveSegment, bucket_in}

-- ---- the code's search, from segment i on

module _ (segments : List Segment) (day i : ℕ) where
  abbrev g : Segment
  g = segment_at segments i

  pub bucket-found : i < length segments → day < g.until → bucket_in (drop i segments) day ≡ bucket_on g.from g.until g.width g.highest day
  unfolding bucket_in
  bucket-found h k = rw (drop-cons segments i (segment_at [] 0) h, lt-ltb day g.until k)

  pub bucket-passed : i < length segments → g.until ≤ day → bucket_in (drop i segments) day ≡ bucket_in (drop (i + 1) segments) day
  unfolding bucket_in
  bucket-passed h k = rw (drop-cons segments i (segment_at [] 0) h, le-ltb day g.until k, add-one)

  pub bucket-none : length segments ≤ i → bucket_in (drop i segments) day ≡ alone day
  unfolding bucket_in
  bucket-none h = rw (drop_of_length-le segments h)

-- ---- its chord

module _ (c : Curve) (x : Components) (s : ℕ) (k : s < scenario_count x) (day : ℕ) (on : day ≤ 10950) where
  pub buckets-meet : (segments : List Segment) → ((i : ℕ) → i < length segments → CurveSegment c x (segment_at segments i)) → Meets (rates_in c x s) day (bucket_in segments day)
  unfolding bucket_in
  buckets-meet [] h = alone-meets (rates_in c x s) day on
  buckets-meet (g ∷ gs) h = go (ltb day g.until) (buckets-meet gs (λ i l. h (suc i) (omega arith)))
    where
      go : (t : Bool) {rest : Bucket} → Meets (rates_in c x s) day rest → Meets (rates_in c x s) day (cond t (bucket_on g.from g.until g.width g.highest day) rest)
      go true r =
          let segment = h 0 (omega arith) in
          bucket-meets (rates_in c x s) g.from g.until g.width g.highest day (segment.straight s k) segment.limits.most segment.limits.until on
      go false r = r
