-- The fine factor, by logarithms, in parts of 2 ^ 42; and the numbers between which document 01's factor lies.
use Rattle.std.specs.Prelude.{ℕ, ◌+◌, ◌-◌, ◌*◌, ◌/◌, ◌%◌, ◌≤◌}
use Rattle.decimal.specs.Product.{unit}
use Rattle.discount.specs.Discount.{million, factor}
use Rattle.logarithm.specs.Logarithms.{step, log_of, fine_whole, power_row, middle_base, upper_base}
use Rattle.fine.specs.declared.bracket.Bracket.{Bracket}

-- the logarithm of million / (million + rate)
unfoldable pub log_at : ℕ → ℕ
log_at rate = log_of (rate / 2048) + step (million + 2048 * (rate / 2048)) (rate % 2048)

-- a * b, in parts of fine_whole
unfoldable pub scaled : ℕ → ℕ → ℕ
scaled a b = a * b / fine_whole

-- the base to a power below 2 ^ 37: 1 - y + y y / 2, with y in parts of fine_whole, a little less
unfoldable pub low_power : ℕ → ℕ
low_power x = 4398046511102 - x / 512 + x / 512 * (x / 512) / 8796093022208

-- to the power x: its upper digits from one table, the next ten from the other, the lowest 37 by the series
unfoldable pub antilog : ℕ → ℕ
antilog x =
    scaled (scaled (power_row upper_base (x / 140737488355328)) (power_row middle_base (x / 137438953472 % 1024))) (low_power (x % 137438953472))

unfoldable pub fine_factor : ℕ → ℕ → ℕ
fine_factor rate days = antilog (log_at rate * days / 365)

-- ---- where document 01's factor lies

-- between two numbers in parts of fine_whole
pub record InBracket (b : Bracket) (rate days : ℕ) : Type 0 where
  pub least : b.low * unit ≤ factor rate days * fine_whole
  pub most : factor rate days * fine_whole ≤ b.high * unit

-- how many units of the exponent the logarithm of a rate and some days may be short
unfoldable pub spread : ℕ → ℕ → ℕ
spread rate days = (32 * (rate / 2048) + 32) * days / 365 + 2

-- what the products of the days beyond whole years may lose, two parts of unit each, discounted over the whole years: with c for the factor of all,
-- and so at most c (million + rate) / million for that of the years
unfoldable pub lost : ℕ → ℕ → ℕ → ℕ
lost rate days c = 2 * (days % 365) * ((c + 12) * (1000000 + rate) / 1000000 + 1) / 4398046511104 + 1

-- how far document 01's factor may be under a fine factor c, and above it, in parts of fine_whole
unfoldable pub below : ℕ → ℕ → ℕ → ℕ
below rate days c = 2 + spread rate days * c / 2251799813685248 + 4398046511104 * (lost rate days c + 2 * (days / 365)) / 1000000000000

unfoldable pub above : ℕ → ℕ → ℕ → ℕ
above rate days c = 13 + 4398046511104 * lost rate days c / 1000000000000

unfoldable pub bracket_of : ℕ → ℕ → ℕ → Bracket
bracket_of rate days c = record { low = c - below rate days c; high = c + above rate days c }

unfoldable pub bracket_at : ℕ → ℕ → Bracket
bracket_at rate days = bracket_of rate days (fine_factor rate days)

-- how high a bracket is at most, and how wide
pub record BracketLimits (b : Bracket) : Type 0 where
  pub order : b.low ≤ b.high
  pub most : b.high ≤ 5000000000000
  pub width : b.high ≤ b.low + 16000
