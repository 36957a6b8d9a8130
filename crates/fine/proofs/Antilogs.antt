-- The antilogarithm of x is at most the base to the power x, and at most 12 parts of 2 ^ 42 under it.
use mathlib.Core.Path.{◌≡◌, refl}
use Prim.Native.Nat.{ℕ, ◌+◌, ◌*◌, ◌/◌, ◌%◌, ◌≤◌, ◌<◌}
use native.Mathlib.Nat.{mul-le-mul, mul-le-mul_right, div-le_of_le-mul}
use native.Mathlib.Omega.{arith}
use lib.Dec.{lit≤}
use Rattle.logarithm.specs.Logarithms.{fine_whole, power_whole, power_row, middle_base, upper_base}
use Rattle.logarithm.proofs.Exponents.{Low, High}
use Rattle.logarithm.proofs.Ratios.{low_product, high_product}
use Rattle.logarithm.proofs.Rows.{fine-is, fine-pos, middle-le, upper-le, power-row-le}
use Rattle.logarithm.proofs.PowerRows.{middle-row-low, middle-row-high, upper-row-low, upper-row-high}
use Rattle.fine.specs.Fine.{scaled, low_power, antilog}
use Rattle.fine.proofs.LowPowers.{low-power-low, low-power-high}

pub scaled-le : (a b : ℕ) → a ≤ fine_whole → b ≤ fine_whole → scaled a b ≤ fine_whole
unfolding scaled
scaled-le a b h k = div-le_of_le-mul fine_whole (mul-le-mul h k)

pub low-power-le : (x : ℕ) → x < 137438953472 → low_power x ≤ fine_whole
unfolding low_power
low-power-le x l =
    let y : ℕ = x / 512 in
    let few : y ≤ 268435455 = omega arith in
    omega (arith, fine-is, mul-le-mul_right y few)

-- a row is of 2 ^ 60 in parts
parts : power_whole ≡ fine_whole * 262144
unfolding power_whole fine_whole
parts = refl

module _ (x : ℕ) where
  abbrev upper : ℕ
  upper = x / 140737488355328

  abbrev middle : ℕ
  middle = x / 137438953472 % 1024

  abbrev lowest : ℕ
  lowest = x % 137438953472

  digits : upper * 140737488355328 + middle * 137438953472 + lowest ≡ x
  digits = omega arith

  lowest-le : low_power lowest ≤ fine_whole
  lowest-le = low-power-le lowest (omega arith)

  rows-le : scaled (power_row upper_base upper) (power_row middle_base middle) ≤ fine_whole
  rows-le = scaled-le _ _ (power-row-le upper_base upper-le upper) (power-row-le middle_base middle-le middle)

  pub antilog-le : antilog x ≤ fine_whole
  unfolding antilog
  antilog-le = scaled-le _ _ rows-le lowest-le

  pub antilog-low : Low fine_whole (antilog x) x
  unfolding antilog scaled power_row
  antilog-low =
      let two = low_product fine_whole fine-pos _ _ _ _ (upper-row-low _ 262144 parts (lit≤ tt) upper) (middle-row-low _ 262144 parts (lit≤ tt) middle) in
      rw digits at (low_product fine_whole fine-pos _ _ _ _ two (low-power-low lowest (omega arith)))

  pub antilog-high : upper ≤ 333 → High fine_whole (antilog x + 12) x
  unfolding antilog scaled power_row
  antilog-high few =
      let two = high_product fine_whole fine-pos _ _ 2 2 _ _ (power-row-le upper_base upper-le upper) (power-row-le middle_base middle-le middle)
      (omega (arith, fine-is)) (upper-row-high _ 262144 parts (lit≤ tt) upper few) (middle-row-high _ 262144 parts (lit≤ tt) middle (omega arith)) in
      rw digits at (high_product fine_whole fine-pos _ _ 6 4 _ _ rows-le lowest-le (omega (arith, fine-is)) two (low-power-high lowest (omega arith)))
