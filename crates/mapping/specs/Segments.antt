-- The segments of days of a curve, and the bucket of a day in them.
use Rattle.std.specs.Prelude.{cond, List, [], ◌∷◌, map, ℕ, ◌≤◌, ◌<◌, ltb, length, get_or}
use Rattle.curve.specs.declared.Curve.{Curve}
use Rattle.curve.specs.declared.Components.{Components}
use Rattle.curve.specs.Rates.{nodes_of, rate_at}
use Rattle.curve.specs.Scenarios.{scenario_count, scenario_at}
use Rattle.curve.specs.Stress.{stressed}
use Rattle.bucket.specs.declared.buckets.Bucket.{Bucket}
use Rattle.bucket.specs.Buckets.{alone, bucket_on}
use Rattle.ground.specs.Limits.{last_day}
use Rattle.bucket.specs.Mapped.{StraightSegment, BucketLimits}
use Rattle.mapping.specs.declared.ranges.Range.{Range}
use Rattle.mapping.specs.declared.segments.Segment.{Segment}

-- the days from one to before another, with the range of their rates
abbrev pub segment_of : ℕ → ℕ → Range → Segment
segment_of from until w = record { from = from; until = until; width = w.width; highest = w.highest }

-- segment i of a list, and what a lookup past its end answers
abbrev pub segment_at : List Segment → ℕ → Segment
segment_at segments i = get_or segments i (record { from = 0; until = 0; width = 0; highest = 0 })

-- the rates of a curve in a scenario
abbrev pub rates_in : Curve → Components → ℕ → ℕ → ℕ
rates_in c x s = rate_at (map (stressed (scenario_at x s)) (nodes_of c))

pub record SegmentLimits (g : Segment) : Type 0 where
  pub until : g.until ≤ 10951
  pub width : g.width ≤ 1000000
  pub most : g.highest ≤ 1000000

-- every segment is in its limits
pub record SegmentsLimits (segments : List Segment) : Type 0 where
  pub each : (i : ℕ) → i < length segments → SegmentLimits (segment_at segments i)

-- and straight in every scenario
pub record CurveSegment (c : Curve) (x : Components) (g : Segment) : Type 0 where
  pub limits : SegmentLimits g
  pub straight : (s : ℕ) → s < scenario_count x → StraightSegment (rates_in c x s) g.from g.until g.width g.highest

pub record Segments (c : Curve) (x : Components) (segments : List Segment) : Type 0 where
  pub each : (i : ℕ) → i < length segments → CurveSegment c x (segment_at segments i)

-- the bucket of a day: that in the first segment which ends behind it
unfoldable pub bucket_in : List Segment → ℕ → Bucket
bucket_in [] day = alone day
bucket_in (g ∷ gs) day = cond (ltb day g.until) (bucket_on g.from g.until g.width g.highest day) (bucket_in gs day)

-- what a loop over flows asks of the segments: they are in their limits, and so is the bucket of each day
pub record Grid (segments : List Segment) : Type 0 where
  pub limits : SegmentsLimits segments
  pub buckets : (day : ℕ) → day ≤ last_day → BucketLimits (bucket_in segments day)
