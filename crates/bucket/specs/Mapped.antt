-- Cash flow mapping: flows split between the ends of the buckets of their days, less what that may be too much.
use Rattle.std.specs.Prelude.{Bool, true, false, List, [], ◌∷◌, map, ℕ, ◌+◌, ◌-◌, ◌*◌, ◌/◌, ◌≤◌, ◌<◌, ℤ, pos, negsuc, nat_abs}
use Rattle.ground.specs.Limits.{last_day}
use Rattle.discount.specs.declared.Flow.{Flow}
use Rattle.netting.specs.Netting.{net_on}
use Rattle.bucket.specs.declared.buckets.Bucket.{Bucket}
use Rattle.bucket.specs.Convexity.{Straight}

-- ---- what is known of a bucket

-- the rates of a segment of days are straight: those of any three of its days are, and move no more than `width` in all
pub record StraightSegment (rate : ℕ → ℕ) (from until width most : ℕ) : Type 0 where
  pub each : (g u v : ℕ) → from ≤ g → g + u + v < until
      → Straight most (width * (u + v) / (until - from) + 1) u v (rate g) (rate (g + u)) (rate (g + u + v))

-- a day's factor is near the line between those of its bucket's ends, in parts of 2 ^ 32 of the first
pub record NearLine (factor : ℕ → ℕ) (day : ℕ) (k : Bucket) : Type 0 where
  pub above : 4294967296 * (k.left * factor k.first + k.gone * factor k.last)
      ≤ (k.gone + k.left) * (15 * 4294967296 + k.error * factor k.first) + 4294967296 * ((k.gone + k.left) * factor day)
  pub below : 4294967296 * ((k.gone + k.left) * factor day)
      ≤ (k.gone + k.left) * (15 * 4294967296 + k.error * factor k.first) + 4294967296 * (k.left * factor k.first + k.gone * factor k.last)

pub record BucketLimits (k : Bucket) : Type 0 where
  pub first : k.first ≤ last_day
  pub last : k.last ≤ last_day
  pub some : 1 ≤ k.gone + k.left
  pub few : k.gone + k.left ≤ 32
  pub error : k.error ≤ 4000000

-- ---- a flow mapped

-- what of an amount goes to the last day of the bucket: the nearer the day is to it, the more
unfoldable pub last_part : Bucket → ℕ → ℕ
last_part k amount = amount * k.gone / (k.gone + k.left)

abbrev pub first_flow : Bucket → Flow → Flow
first_flow k f = record { curve = f.curve; day = k.first; received = f.received; amount = f.amount - last_part k f.amount }

abbrev pub last_flow : Bucket → Flow → Flow
last_flow k f = record { curve = f.curve; day = k.last; received = f.received; amount = last_part k f.amount }

-- what the two may be worth too much, as an amount of the first day
unfoldable pub excess : Bucket → ℕ → ℕ
excess k amount = amount * k.error / 4294967296 + 1

-- it is taken off: a flow paid
abbrev pub excess_flow : Bucket → Flow → Flow
excess_flow k f = record { curve = f.curve; day = k.first; received = false; amount = excess k f.amount }

-- each flow of a list, given the bucket of each day
unfoldable pub mapped : (ℕ → Bucket) → List Flow → List Flow
mapped buckets [] = []
mapped buckets (f ∷ fs) =
    first_flow (buckets f.day) f ∷ last_flow (buckets f.day) f ∷ excess_flow (buckets f.day) f ∷ mapped buckets fs

-- what the roundings of a flow's values come to at most
unfoldable pub allowance : ℕ → ℕ
allowance amount = amount / 1000000 + 10

-- ---- net amounts as flows

unfoldable pub is_received : ℤ → Bool
is_received (pos n) = true
is_received (negsuc n) = false

-- a net amount of a day; on which curve does not matter
abbrev pub net_flow : ℕ → ℤ → Flow
net_flow day net = record { curve = 0; day = day; received = is_received net; amount = nat_abs net }

abbrev pub net_flows : List ℤ → List ℕ → List Flow
net_flows nets days = map (λ day. net_flow day (net_on nets day)) days
