-- Buckets of days, of 16 days or less, between whose ends net amounts are mapped.
use Rattle.std.specs.Prelude.{cond, ℕ, min, max, ◌+◌, ◌-◌, ◌*◌, ◌/◌, ltb, leb, eqb}
use Rattle.bucket.specs.declared.buckets.Bucket.{Bucket}
use Rattle.bucket.specs.Convexity.{convexity}

-- a bucket of one day
abbrev pub alone : ℕ → Bucket
alone day = record { first = day; last = day; gone = 0; left = 1; error = 0 }

-- the first day of a day's bucket, in a segment of days from `from` on
abbrev pub first_day_of : ℕ → ℕ → ℕ
first_day_of from day = max from (day / 16 * 16)

-- and the last, in a segment of days before `until`
abbrev pub last_day_of : ℕ → ℕ → ℕ
last_day_of until day = min (day / 16 * 16 + 16) (until - 1)

-- a day in a bucket of more days
abbrev pub spanned : ℕ → ℕ → ℕ → ℕ → Bucket
spanned first last day error = record { first = first; last = last; gone = day - first; left = last - day; error = error }

-- a bucket whose rates move by `jump` at most and are at most `most`; where they move too much, or the line between its ends is too far off, the day is
-- a bucket by itself
unfoldable pub fitting : ℕ → ℕ → ℕ → ℕ → ℕ → Bucket
fitting first last day jump most =
    cond
    (eqb first last)
    (alone day)
    (cond
    (ltb 20000 jump)
    (alone day)
    (cond (ltb 4000000 (convexity most jump (last - first) last)) (alone day) (spanned first last day (convexity most jump (last - first) last))))

-- the bucket of a day in the segment of days from `from` up to `until`, whose rates move by `width` at most and are at most `most`
unfoldable pub bucket_on : ℕ → ℕ → ℕ → ℕ → ℕ → Bucket
bucket_on from until width most day =
    cond
    (ltb day from)
    (alone day)
    (cond
    (leb until day)
    (alone day)
    (fitting (first_day_of from day) (last_day_of until day) day (width * (last_day_of until day - first_day_of from day) / (until - from) + 1) most))
