-- The exact value: it passes the power inequality, and whatever passes it is no larger.
use mathlib.Core.Path.{◌≡◌, refl}
use Prim.Native.Nat.{ℕ, suc, ◌+◌, ◌-◌, ◌*◌, ◌^◌, ◌≤◌, ◌<◌, zero-le}
use native.Mathlib.Nat.{le_trans, lt_irrefl, lt_of_not-le, lt_of_lt_of_le, mul-le-mul_left, mul-le-mul_right, le_of_mul-le-mul_right, zero-mul, pow-zero, pow-le-pow_left, one-le-pow}
use native.Mathlib.Omega.{arith}
use lib.Dec.{leb→le, le→leb}
use Rattle.laws.specs.Greatest.{greatest-holds, greatest-ge}
use Rattle.laws.proofs.Powers.{le-of-pow-le}
use Rattle.discount.specs.Discount.{million, year}
use Rattle.discount.specs.Exact.{exact_test, exact}
use Rattle.discount.proofs.Roots.{million-pos, year-pos}

zero-pow : 0 ^ year ≡ 0
unfolding year
zero-pow = refl

module _ (a r days : ℕ) where
  pub exact-holds : (2 * exact a r days - 1) ^ year * (million + r) ^ days ≤ (2 * a) ^ year * million ^ days
  unfolding exact
  exact-holds =
      let none : 0 ^ year * (million + r) ^ days ≤ (2 * a) ^ year * million ^ days = rw (zero-pow, zero-mul) zero-le in
      leb→le _ _ (greatest-holds (exact_test a r days) a (le→leb _ _ none))

  -- no number above the amount passes, as the year's factor is at most one
  below-amount : (v : ℕ) → (2 * v - 1) ^ year * (million + r) ^ days ≤ (2 * a) ^ year * million ^ days → v ≤ a
  below-amount v h =
      let lower : million ^ days ≤ (million + r) ^ days = pow-le-pow_left (omega arith) days in
      let scaled : (2 * v - 1) ^ year * million ^ days ≤ (2 * a) ^ year * million ^ days = le_trans (mul-le-mul_left ((2 * v - 1) ^ year) lower) h in
      omega (arith, le-of-pow-le (2 * v - 1) (2 * a) year year-pos (le_of_mul-le-mul_right scaled (one-le-pow days million million-pos)))

  pub exact-ge : (v : ℕ) → (2 * v - 1) ^ year * (million + r) ^ days ≤ (2 * a) ^ year * million ^ days → v ≤ exact a r days
  unfolding exact
  exact-ge v h = greatest-ge (exact_test a r days) a v (below-amount v h) (le→leb _ _ h)

  pub exact-lt : (v : ℕ) → (2 * a) ^ year * million ^ days < (2 * v - 1) ^ year * (million + r) ^ days → exact a r days < v
  exact-lt v h =
      lt_of_not-le
      (λ l.
      let lower : 2 * v - 1 ≤ 2 * exact a r days - 1 = omega arith in
      lt_irrefl _ (lt_of_lt_of_le h (le_trans (mul-le-mul_right ((million + r) ^ days) (pow-le-pow_left lower year)) exact-holds)))

  -- two tests show it
  pub exact-is : (v : ℕ) → (2 * v - 1) ^ year * (million + r) ^ days ≤ (2 * a) ^ year * million ^ days
      → (2 * a) ^ year * million ^ days < (2 * suc v - 1) ^ year * (million + r) ^ days → exact a r days ≡ v
  exact-is v h k = omega (arith, exact-ge v h, exact-lt (suc v) k)

-- on day 0, the amount
pub exact-today : (a r : ℕ) → exact a r 0 ≡ a
exact-today a r =
    let lower : 2 * a - 1 ≤ 2 * a = omega arith in
    omega (arith, below-amount a r 0 (exact a r 0) (exact-holds a r 0), exact-ge a r 0 a (simp pow-zero (mul-le-mul_right 1 (pow-le-pow_left lower year))))
