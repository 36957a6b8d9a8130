-- The cheap power of x is at most the base to the power x, and at most 14 parts of 2 ^ 31 under it.
use mathlib.Core.Path.{◌≡◌, refl}
use Prim.Native.Nat.{ℕ, ◌+◌, ◌*◌, ◌/◌, ◌%◌, ◌≤◌, ◌<◌}
use native.Mathlib.Nat.{mul-le-mul, div-le_of_le-mul}
use native.Mathlib.Omega.{arith}
use lib.Dec.{lit<, lit≤}
use Rattle.logarithm.specs.Logarithms.{power_whole, short_row, middle_base, upper_base}
use Rattle.logarithm.proofs.Exponents.{Low, High}
use Rattle.logarithm.proofs.Ratios.{low_product, high_product}
use Rattle.logarithm.proofs.Rows.{middle-le, upper-le, short-row-le}
use Rattle.logarithm.proofs.PowerRows.{middle-row-low, middle-row-high, upper-row-low, upper-row-high}
use Rattle.cheap.specs.Cheap.{whole, cheap_power}
use Rattle.cheap.proofs.LowDigits.{digits_low, digits-high}

pub whole_is : whole ≡ 2147483648
unfolding whole
whole_is = refl

pub whole_pos : 0 < whole
unfolding whole
whole_pos = lit< tt

-- a row is of 2 ^ 60 in parts
parts : power_whole ≡ whole * 536870912
unfolding power_whole whole
parts = refl

row-le : (b j : ℕ) → b ≤ power_whole → short_row b j ≤ whole
row-le b j l = rw whole_is (short-row-le b l j)

product_le : (a b : ℕ) → a ≤ whole → b ≤ whole → a * b / 2147483648 ≤ whole
unfolding whole
product_le a b h k = div-le_of_le-mul 2147483648 (mul-le-mul h k)

module _ (x : ℕ) where
  abbrev upper : ℕ
  upper = x / 140737488355328

  abbrev middle : ℕ
  middle = x / 137438953472 % 1024

  abbrev lowest : ℕ
  lowest = x % 137438953472

  digits : upper * 140737488355328 + middle * 137438953472 + lowest ≡ x
  digits = omega arith

  rows-le : short_row upper_base upper * short_row middle_base middle / 2147483648 ≤ whole
  rows-le = product_le _ _ (row-le upper_base upper upper-le) (row-le middle_base middle middle-le)

  pub power_le : cheap_power x ≤ whole
  unfolding cheap_power
  power_le = product_le _ _ rows-le (omega (arith, whole_is))

  upper-low : Low whole (short_row upper_base upper) (upper * 140737488355328)
  unfolding short_row
  upper-low = upper-row-low whole 536870912 parts (lit≤ tt) upper

  middle-low : Low whole (short_row middle_base middle) (middle * 137438953472)
  unfolding short_row
  middle-low = middle-row-low whole 536870912 parts (lit≤ tt) middle

  pub power-low : Low whole (cheap_power x) x
  unfolding cheap_power whole
  power-low =
      let two = low_product whole whole_pos _ _ _ _ upper-low middle-low in
      let three = low_product whole whole_pos _ _ _ _ two (digits_low lowest (omega arith)) in
      rw digits at three

  upper-high : upper ≤ 333 → High whole (short_row upper_base upper + 2) (upper * 140737488355328)
  unfolding short_row
  upper-high few = upper-row-high whole 536870912 parts (lit≤ tt) upper few

  middle-high : High whole (short_row middle_base middle + 2) (middle * 137438953472)
  unfolding short_row
  middle-high = middle-row-high whole 536870912 parts (lit≤ tt) middle (omega arith)

  pub power-high : upper ≤ 333 → High whole (cheap_power x + 14) x
  unfolding cheap_power whole
  power-high few =
      let two = high_product whole whole_pos _ _ 2 2 _ _ (row-le upper_base upper upper-le) (row-le middle_base middle middle-le) (lit≤ tt) (upper-high few) middle-high in
      let three = high_product whole whole_pos _ _ 6 6 _ _ rows-le (omega arith) (lit≤ tt) two (digits-high lowest (omega arith)) in
      rw digits at three
