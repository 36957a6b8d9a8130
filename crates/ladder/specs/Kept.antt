-- What is kept by day while a ladder is valued, in one number a day: 0 where it is nothing, twice the factor, or, where it is odd, the factor's bracket.
use Rattle.std.specs.Prelude.{◌≡◌, List, ℕ, ◌+◌, ◌/◌, ◌%◌, ◌≤◌, length, get_or}
use Rattle.ground.specs.Limits.{last_day, day_count}
use Rattle.decimal.specs.Product.{unit}
use Rattle.discount.specs.Discount.{factor}
use Rattle.curve.specs.declared.Node.{Node}
use Rattle.curve.specs.Rates.{rate_at}
use Rattle.fine.specs.Fine.{InBracket, BracketLimits}
use Rattle.fine.specs.declared.bracket.Bracket.{Bracket}

-- the bracket in a number
unfoldable pub bracket_in : ℕ → Bracket
bracket_in entry = record { low = entry / 32768; high = entry / 32768 + entry / 2 % 16384 }

-- a number that can be kept
pub record EntryLimits (entry : ℕ) : Type 0 where
  pub factor : entry % 2 ≡ 0 → entry / 2 ≤ unit
  pub bracket : entry % 2 ≡ 1 → BracketLimits (bracket_in entry)

-- one that is kept of a day, at its rate
pub record KeptOn (rate day entry : ℕ) : Type 0 where
  pub limits : EntryLimits entry
  pub factor : entry % 2 ≡ 0 → entry / 2 ≡ factor rate day
  pub bracket : entry % 2 ≡ 1 → InBracket (bracket_in entry) rate day

-- by day, at the rates that the nodes give
pub record KeptFactors (nodes : List Node) (factors : List ℕ) : Type 0 where
  pub places : length factors ≡ day_count
  pub each : (day : ℕ) → day ≤ last_day → (get_or factors day 0 ≡ 0 → ⊥) → KeptOn (rate_at nodes day) day (get_or factors day 0)
