-- A present value and the exact value, each rounded to the nearest, are at most the tolerance apart: what is before the rounding is at most two units
-- of a factor's last place for each product apart, on either side, and the tolerance is that, rounded up.
use mathlib.Core.Path.{◌≡◌}
use Prim.Native.Nat.{ℕ, suc, ◌+◌, ◌-◌, ◌*◌, ◌^◌, ◌≤◌, ◌<◌}
use native.Mathlib.Nat.{mul-sub, mul-le-mul_left, mul-le-mul_right, le_of_mul-le-mul_right, lt_of_mul-lt-mul_right, lt-div-mul-add, div-eq_of_lt, pow-le-pow_left, one-le-pow}
use native.Mathlib.Omega.{arith}
use Rattle.laws.proofs.Powers.{mul-pow, sub-mul, le-of-pow-le}
use Rattle.decimal.specs.Product.{unit}
use Rattle.decimal.proofs.Products.{unit-pos}
use Rattle.decimal.proofs.HalfUp.{discounted-low, discounted-high, discounted-le, discounted-one}
use Rattle.discount.specs.Discount.{million, year, compound, power, factor, present_value, products, tolerance}
use Rattle.discount.specs.Exact.{exact}
use Rattle.discount.proofs.Roots.{year-pos, rate-pos}
use Rattle.discount.proofs.Factors.{factor-le, factor-high, factor-low}
use Rattle.discount.proofs.Exactness.{exact-holds, exact-ge}

-- ---- from an order of numbers to the power inequality, and back

module _ (r days w b g : ℕ) where
  raised : w * unit ≤ b * g → g ^ year * (million + r) ^ days ≤ unit ^ year * million ^ days → w ^ year * (million + r) ^ days ≤ b ^ year * million ^ days
  raised h k =
      let powers : w ^ year * unit ^ year ≤ b ^ year * g ^ year = simp mul-pow at (pow-le-pow_left h year) in
      let scaled : w ^ year * (million + r) ^ days * unit ^ year ≤ b ^ year * million ^ days * unit ^ year =
      omega (arith, mul-le-mul_right ((million + r) ^ days) powers, mul-le-mul_left (b ^ year) k) in
      le_of_mul-le-mul_right scaled (one-le-pow year unit unit-pos)

  lowered : w ^ year * (million + r) ^ days ≤ b ^ year * million ^ days → unit ^ year * million ^ days ≤ g ^ year * (million + r) ^ days → w * unit ≤ b * g
  lowered h k =
      let scaled : (w * unit) ^ year * (million + r) ^ days ≤ (b * g) ^ year * (million + r) ^ days =
      simp mul-pow (omega (arith, mul-le-mul_right (unit ^ year) h, mul-le-mul_left (b ^ year) k)) in
      le-of-pow-le _ _ year year-pos (le_of_mul-le-mul_right scaled (one-le-pow days (million + r) (rate-pos r)))

module _ (a r days : ℕ) where
  value_low : present_value a r days * (unit * 2) ≤ a * factor r days * 2 + unit
  unfolding present_value
  value_low = discounted-low a (factor r days)

  value-high : a * factor r days * 2 < present_value a r days * (unit * 2) + unit
  unfolding present_value
  value-high = discounted-high a (factor r days)

  pub value-le : present_value a r days ≤ a
  unfolding present_value
  value-le = discounted-le a (factor r days) (factor-le r days)

  tolerance-covers : a * (2 * products days) ≤ tolerance a days * unit
  unfolding tolerance
  tolerance-covers = omega (arith, lt-div-mul-add {a = a * (2 * products days) + (unit - 1)} unit-pos, unit-pos)

  -- ---- the theorem

  pub not-over : r ≤ million → present_value a r days ≤ exact a r days + tolerance a days
  not-over h =
      let p : ℕ = present_value a r days in
      let t : ℕ = tolerance a days in
      let g : ℕ = factor r days - (2 * products days) in
      let w : ℕ = 2 * (p - t) - 1 in
      let under-g : w * unit ≤ 2 * a * g =
      omega (arith, sub-mul (2 * (p - t)) 1 unit, sub-mul p t unit, mul-sub a (factor r days) (2 * products days), value_low, tolerance-covers) in
      omega (arith, exact-ge a r days (p - t) (raised r days w (2 * a) g under-g (factor-high r days h)))

  pub not-under : exact a r days ≤ present_value a r days + tolerance a days
  not-under =
      let e : ℕ = exact a r days in
      let p : ℕ = present_value a r days in
      let t : ℕ = tolerance a days in
      let h : ℕ = factor r days + (2 * products days) in
      let over-h : (2 * e - 1) * unit ≤ 2 * a * h = lowered r days (2 * e - 1) (2 * a) h (exact-holds a r days) (factor-low r days) in
      let strict : e * unit < suc (p + t) * unit = omega (arith, sub-mul (2 * e) 1 unit, over-h, value-high, tolerance-covers) in
      omega (arith, lt_of_mul-lt-mul_right unit strict)

-- ---- on day 0 the value is the amount, and the tolerance 0

pub value-today : (a r : ℕ) → present_value a r 0 ≡ a
unfolding year compound power factor present_value
value-today a r = discounted-one a

pub tolerance-today : (a : ℕ) → tolerance a 0 ≡ 0
unfolding year products tolerance
tolerance-today a = div-eq_of_lt (omega (arith, unit-pos))
