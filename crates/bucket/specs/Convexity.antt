-- Three days of a line of rates: how far the cheap factor of the middle one may be from the line between those of the other two. Discount factors are
-- convex, so the line between two of them is above those between.
use Rattle.std.specs.Prelude.{ℕ, ◌+◌, ◌*◌, ◌/◌, ◌≤◌}

-- two numbers are at most t apart
pub record Apart (a b t : ℕ) : Type 0 where
  pub above : a ≤ b + t
  pub below : b ≤ a + t

-- the rates r₀, r, r₁ of three days, u and v days apart, are on a line but for a millionth, at most `jump` apart and at most `most`
pub record Straight (most jump u v r₀ r r₁ : ℕ) : Type 0 where
  pub under : v * r₀ + u * r₁ ≤ (u + v) * (r + 1)
  pub over : (u + v) * r ≤ v * r₀ + u * r₁ + (u + v)
  pub first : Apart r₀ r jump
  pub second : Apart r r₁ jump
  pub both : Apart r₀ r₁ jump
  pub limit₀ : r₀ ≤ most
  pub limit : r ≤ most
  pub limit₁ : r₁ ≤ most

-- ---- in units of a logarithm, of which a millionth of a rate is at most 2,251,799,814; a cheap logarithm is at most 9,700,000 off

-- the logarithms of two rates
unfoldable pub logs_apart : ℕ → ℕ
logs_apart jump = 2251799814 * jump + 9700000

-- a rate's logarithm from the line between the other two
unfoldable pub log_off : ℕ → ℕ
log_off jump = 2261499814 + 2252 * (jump * jump)

-- the exponents of two days, which are at most `span` days apart and not after `day`
unfoldable pub exponents_apart : ℕ → ℕ → ℕ → ℕ → ℕ
exponents_apart most jump span day = (364 + logs_apart jump * day + logs_apart most * span) / 365 + 1

-- an exponent from the line between the other two
unfoldable pub exponent_off : ℕ → ℕ → ℕ → ℕ
exponent_off jump span day = (1456 + 4 * (day * log_off jump) + span * logs_apart jump) / 1460 + 1

-- ---- in parts of 2 ^ 32 of a factor: the square of what exponents are apart, and what one is off its line

unfoldable pub squared : ℕ → ℕ
squared apart = (apart / 2147483648 + 1) * (apart / 2147483648 + 1) / 256 + 1

unfoldable pub bent : ℕ → ℕ → ℕ → ℕ → ℕ
bent most jump span day = squared (exponents_apart most jump span day) + (exponent_off jump span day / 524288 + 1)

-- an eighth more, for the factor of the first day in the place of the largest
unfoldable pub convexity : ℕ → ℕ → ℕ → ℕ → ℕ
convexity most jump span day = bent most jump span day + bent most jump span day / 8 + 1
