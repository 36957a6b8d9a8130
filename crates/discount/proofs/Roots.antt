-- Laws of the year's factor, and of `root`, the day's factor that belongs to it.
use mathlib.Core.Path.{◌≡◌}
use Prim.Native.Nat.{ℕ, suc, ◌+◌, ◌*◌, ◌/◌, ◌≤◌, ◌<◌, zero-le}
use native.Mathlib.Nat.{le_refl, le_trans, mul-le-mul_left, div-mul-le_self, lt-div-mul-add, div-le_of_le-mul, le-div_iff_mul-le, lt_of_not-le, lt_irrefl, lt_of_lt_of_le}
use native.Mathlib.Omega.{arith}
use lib.Dec.{leb→le, le→leb, lit<}
use Rattle.laws.specs.Greatest.{greatest-le, greatest-holds, greatest-ge}
use Rattle.decimal.specs.Product.{unit}
use Rattle.discount.specs.Discount.{million, year, power, yearly, root_test, root}
use Rattle.discount.proofs.Compounding.{power-mono, power_zero, power-one}

pub million-pos : 0 < million
unfolding million
million-pos = lit< tt

pub year-pos : 0 < year
unfolding year
year-pos = lit< tt

-- ---- the year's factor is unit * million / (million + r), rounded down

module _ (r : ℕ) where
  pub rate-pos : 0 < million + r
  rate-pos = omega (arith, million-pos)

  pub yearly-low : yearly r * (million + r) ≤ unit * million
  unfolding yearly
  yearly-low = div-mul-le_self (unit * million) (million + r)

  pub yearly-high : unit * million ≤ suc (yearly r) * (million + r)
  unfolding yearly
  yearly-high = omega (arith, lt-div-mul-add {a = unit * million} rate-pos)

  pub yearly-le : yearly r ≤ unit
  unfolding yearly
  yearly-le = div-le_of_le-mul (million + r) (omega arith)

  pub yearly-half : r ≤ million → 500000000000 ≤ yearly r
  unfolding yearly unit million
  yearly-half h = (le-div_iff_mul-le rate-pos).1 (omega arith)

-- the year's factor does not rise where the rate rises
pub yearly-falls : {r s : ℕ} → r ≤ s → yearly s ≤ yearly r
unfolding yearly
yearly-falls {r} {s} h =
    (le-div_iff_mul-le (rate-pos r)).1 (le_trans (mul-le-mul_left (unit * million / (million + s)) (omega arith)) (div-mul-le_self (unit * million) (million + s)))

-- ---- the laws of `root`

module _ (y : ℕ) where
  pub root-le : root y ≤ unit
  unfolding root
  root-le = greatest-le (root_test y) unit

  pub root-holds : power (root y) year ≤ y
  unfolding root
  root-holds = leb→le _ _ (greatest-holds (root_test y) unit (le→leb (power 0 year) y (rw (power_zero year year-pos) zero-le)))

  pub root_ge : (q : ℕ) → q ≤ unit → power q year ≤ y → q ≤ root y
  unfolding root
  root_ge q l h = greatest-ge (root_test y) unit q l (le→leb _ _ h)

  -- a number whose power is above y is above it
  pub root-lt : (q : ℕ) → y < power q year → root y < q
  root-lt q h = lt_of_not-le (λ l. lt_irrefl y (lt_of_lt_of_le h (le_trans (power-mono year l) root-holds)))

  -- two tests show it
  pub root_is : (q : ℕ) → q ≤ unit → power q year ≤ y → y < power (q + 1) year → root y ≡ q
  root_is q l h k = omega (arith, root_ge q l h, root-lt (q + 1) k)

  -- below one it is not one
  pub root_below : y < unit → root y < unit
  root_below h = root-lt unit (omega (arith, power-one year))

pub root-one : root unit ≡ unit
root-one = omega (arith, root-le unit, root_ge unit unit (le_refl unit) (omega (arith, power-one year)))

pub root-mono : {y z : ℕ} → y ≤ z → root y ≤ root z
root-mono {y} {z} h = root_ge z (root y) (root-le y) (le_trans (root-holds y) h)

-- what the functions of a year's factor and its root are proved by
pub ruleset roots = (yearly-le, root-lt, root_ge, root_below, root_is, root-le)
