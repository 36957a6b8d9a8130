-- A day's factor is near the line of its bucket, where the rates of its segment of days are straight.
use mathlib.Core.Path.{◌≡◌, refl}
use mathlib.Core.Bool.{Bool, true, false, cond}
use Prim.Native.Nat.{ℕ, ◌+◌, ◌-◌, ◌*◌, ◌/◌, ◌≤◌, ◌<◌}
use native.Mathlib.Omega.{arith}
use borrow.Author.Tests.{eqb-false, ltb-false, leb-false}
use lib.Dec.{ltb, leb, eqb}
use Rattle.netting.specs.Netting.{cheap_on}
use Rattle.bucket.specs.declared.buckets.Bucket.{Bucket}
use Rattle.bucket.specs.Convexity.{Straight, convexity}
use Rattle.bucket.specs.Buckets.{alone, first_day_of, last_day_of, spanned, fitting, bucket_on}
use Rattle.bucket.specs.Mapped.{StraightSegment, NearLine, BucketLimits}
use Rattle.bucket.proofs.FactorChords.{chord-above, chord-below}

alone-near : (factor : ℕ → ℕ) (day : ℕ) → NearLine factor day (alone day)
alone-near factor day = record { above = omega arith; below = omega arith }

alone-limits : (day : ℕ) → day ≤ 10950 → BucketLimits (alone day)
alone-limits day h = record { first = h; last = h; some = omega arith; few = omega arith; error = omega arith }

-- what is asked of a bucket: its line is near, and it is in its limits
pub record Meets (rate : ℕ → ℕ) (day : ℕ) (k : Bucket) : Type 0 where
  pub line : NearLine (cheap_on rate) day k
  pub limits : BucketLimits k

pub alone-meets : (rate : ℕ → ℕ) (day : ℕ) → day ≤ 10950 → Meets rate day (alone day)
alone-meets rate day h = record { line = alone-near (cheap_on rate) day; limits = alone-limits day h }

module _ (rate : ℕ → ℕ) (most jump g u v : ℕ) (st : Straight most jump u v (rate g) (rate (g + u)) (rate (g + u + v))) (top : most ≤ 1000000) (last : g + u + v ≤ 10950) (few : u + v ≤ 32) where
  abbrev off : ℕ
  off = convexity most jump (u + v) (g + u + v)

  abbrev bucket : Bucket
  bucket = record { first = g; last = g + u + v; gone = u; left = v; error = off }

  spanned-is : spanned g (g + u + v) (g + u) off ≡ bucket
  spanned-is =
      let e : g + u - g ≡ u = omega arith in
      let f : g + u + v - (g + u) ≡ v = omega arith in
      rw (e, f)

  fitting-meets : Meets rate (g + u) (fitting g (g + u + v) (g + u) jump most)
  unfolding fitting
  fitting-meets =
      let span : g + u + v - g ≡ u + v = omega arith in
      rw span (go (eqb g (g + u + v)) refl)
    where
      third : (t : Bool) → ltb 4000000 off ≡ t → 0 < u + v → Meets rate (g + u) (cond t (alone (g + u)) (spanned g (g + u + v) (g + u) off))
      third true e some = alone-meets rate (g + u) (omega arith)
      third false e some =
          let small : off ≤ 4000000 = ltb-false 4000000 off e in
          rw spanned-is
          (record {
            line =
                record {
                  above = chord-above most jump g u v (rate g) (rate (g + u)) (rate (g + u + v)) st top last small;
                  below = chord-below most jump g u v (rate g) (rate (g + u)) (rate (g + u + v)) st top last small;
                };
            limits = record { first = omega arith; last = last; some = some; few = few; error = small };
          })

      second : (t : Bool) → ltb 20000 jump ≡ t → 0 < u + v → Meets rate (g + u) (cond t (alone (g + u)) (cond (ltb 4000000 off) (alone (g + u)) (spanned g (g + u + v) (g + u) off)))
      second true e some = alone-meets rate (g + u) (omega arith)
      second false e some = third (ltb 4000000 off) refl some

      go : (t : Bool) → eqb g (g + u + v) ≡ t
          → Meets rate (g + u) (cond t (alone (g + u)) (cond (ltb 20000 jump) (alone (g + u)) (cond (ltb 4000000 off) (alone (g + u)) (spanned g (g + u + v) (g + u) off))))
      go true e = alone-meets rate (g + u) (omega arith)
      go false e = second (ltb 20000 jump) refl (omega (arith, eqb-false g (g + u + v) e))

module _ (rate : ℕ → ℕ) (from until width most day : ℕ) (straight : StraightSegment rate from until width most) (top : most ≤ 1000000) (last : until ≤ 10951) where
  inside : from ≤ day → day < until
      → Meets rate day (fitting (first_day_of from day) (last_day_of until day) day (width * (last_day_of until day - first_day_of from day) / (until - from) + 1) most)
  inside h k =
      let g : ℕ = first_day_of from day in
      let u : ℕ = day - first_day_of from day in
      let v : ℕ = last_day_of until day - day in
      let e : g + u ≡ day = omega arith in
      let f : g + u + v ≡ last_day_of until day = omega arith in
      let s : u + v ≡ last_day_of until day - first_day_of from day = omega arith in
      let all = fitting-meets rate most (width * (u + v) / (until - from) + 1) g u v (straight.each g u v (omega arith) (omega arith)) top (omega arith) (omega arith) in
      rw (s, f, e) at all

  pub bucket-meets : day ≤ 10950 → Meets rate day (bucket_on from until width most day)
  unfolding bucket_on
  bucket-meets d = go (ltb day from) refl
    where
      more : (t : Bool) → leb until day ≡ t → from ≤ day
          → Meets rate day (cond t (alone day) (fitting (first_day_of from day) (last_day_of until day) day (width * (last_day_of until day - first_day_of from day) / (until - from) + 1) most))
      more true e h = alone-meets rate day d
      more false e h = inside h (leb-false until day e)

      go : (t : Bool) → ltb day from ≡ t
          → Meets rate day (cond t (alone day) (cond (leb until day) (alone day) (fitting (first_day_of from day) (last_day_of until day) day (width * (last_day_of until day - first_day_of from day) / (until - from) + 1) most)))
      go true e = alone-meets rate day d
      go false e = more (leb until day) refl (ltb-false day from e)
