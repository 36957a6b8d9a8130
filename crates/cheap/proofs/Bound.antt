-- The cheap factor is at most `whole`, and within `distance` of document 01's.
use Prim.Native.Nat.{ℕ, ◌+◌, ◌*◌, ◌/◌, ◌%◌, ◌≤◌}
use native.Mathlib.Nat.{mul-le-mul_left, mul-le-mul_right}
use native.Mathlib.Omega.{arith}
use Rattle.decimal.specs.Product.{unit}
use Rattle.discount.specs.Discount.{million, year, factor, products}
use Rattle.discount.proofs.Factors.{covers-all}
use Rattle.logarithm.specs.Logarithms.{scale}
use Rattle.logarithm.proofs.Rows.{exponent-le}
use Rattle.logarithm.proofs.Closeness.{near-most, near-least}
use Rattle.cheap.specs.Cheap.{whole, cheap_log, cheap_power, cheap_factor, Near, distance}
use Rattle.cheap.proofs.CheapLogs.{cheap-log-near, cheap-log-le}
use Rattle.cheap.proofs.Powers.{whole_pos, power-low, power-high, power_le}

pub cheap-le : (r days : ℕ) → cheap_factor r days ≤ whole
unfolding cheap_factor
cheap-le r days = power_le (cheap_log r * days / 365)

-- m units of the exponent, in parts of whole
units : (c m : ℕ) → c ≤ whole → 2 * m * c ≤ (m / 1048576 + 1) * scale
unfolding whole scale
units c m h = omega (arith, mul-le-mul_left (2 * m) h)

module _ (r days : ℕ) (l : r ≤ 1000000) (k : days ≤ 10950) where
  abbrev c : ℕ
  c = cheap_power (cheap_log r * days / 365)

  abbrev m : ℕ
  m = 9700000 * days / 365 + 2

  few : m ≤ scale
  unfolding scale
  few = omega arith

  rate-le : r ≤ million
  unfolding million
  rate-le = l

  found-above : factor r days * whole ≤ (c + 14) * unit + 2 * (days % year) * whole
  found-above =
      near-most r days whole c 14 (cheap_log r) 9700000 0 (2 * (days % year)) rate-le whole_pos (cheap-log-near r l) (covers-all r days)
      (power-high _ (exponent-le (cheap_log r) days (cheap-log-le r l) k))

  found_below : c * unit ≤ factor r days * whole + (2 * (days % year) + 2 * (days / year)) * whole + (m / 1048576 + 1) * unit
  found_below =
      near-least r days whole c 14 (cheap_log r) 9700000 (m / 1048576 + 1) (2 * (days % year)) rate-le whole_pos (cheap-log-near r l) (covers-all r days)
      (power-low _) few (units c m (power_le _))

  -- what was found is no more than what `distance` says
  pub cheap-near : Near whole (cheap_factor r days) r days (distance days)
  unfolding cheap_factor distance products
  cheap-near =
      let wide : (14 + (m / 1048576 + 1)) * unit ≤ (15 + m / 1048576) * unit = mul-le-mul_right unit (omega arith) in
      record { above = omega (arith, found-above, wide); below = omega (arith, found_below, wide) }
