-- The cheap factor, from the tables of the fine one with less of each: a logarithm by two terms, and an antilogarithm in parts of 2 ^ 31. How near it is
-- to document 01's.
use Rattle.std.specs.Prelude.{ℕ, ◌+◌, ◌-◌, ◌*◌, ◌/◌, ◌%◌, ◌≤◌}
use Rattle.decimal.specs.Product.{unit}
use Rattle.discount.specs.Discount.{factor, products}
use Rattle.logarithm.specs.Logarithms.{log_of, log_slope, short_row, middle_base, upper_base}

-- one, in a cheap factor: 2 ^ 31
unfoldable pub whole : ℕ
whole = 2147483648

-- the square of t, in parts of scale, a little less: what a slope loses where it has risen by t
unfoldable pub bend : ℕ → ℕ
bend t = t / 2097152 * (t / 2097152) / 1024

-- the logarithm of million / (million + rate): a row of the table, and j millionths along its slope
unfoldable pub risen : ℕ → ℕ → ℕ
risen i j = j * log_slope i - bend (j * log_slope i)

unfoldable pub cheap_log : ℕ → ℕ
cheap_log rate = log_of (rate / 2048) + risen (rate / 2048) (rate % 2048)

-- the base to the power x: the upper digits of x from one table, the next ten from the other, the lowest 37 on a line
unfoldable pub cheap_power : ℕ → ℕ
cheap_power x =
    short_row upper_base (x / 140737488355328) * short_row middle_base (x / 137438953472 % 1024) / 2147483648
    * (2147483647 - x % 137438953472 / 1048576)
    / 2147483648

unfoldable pub cheap_factor : ℕ → ℕ → ℕ
cheap_factor rate days = cheap_power (cheap_log rate * days / 365)

-- ---- what it is near

-- c, in parts of z, and document 01's factor, in parts of unit, are at most t apart, in parts of z * unit
pub record Near (z c rate days t : ℕ) : Type 0 where
  pub above : factor rate days * z ≤ c * unit + t
  pub below : c * unit ≤ factor rate days * z + t

-- how far the cheap factor may be from document 01's, in parts of whole * unit
unfoldable pub distance : ℕ → ℕ
distance days = (15 + (9700000 * days / 365 + 2) / 1048576) * unit + 2 * products days * whole
