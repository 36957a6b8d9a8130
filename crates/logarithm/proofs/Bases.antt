-- The bases of the two tables of powers are at most what they should be, and at most 30 parts of 2 ^ 60 under it. Numerals that the checker computes.
use mathlib.Core.Path.{◌≡◌, refl}
use Prim.Native.Nat.{ℕ, ◌+◌, ◌*◌, ◌^◌, ◌≤◌, ◌<◌}
use native.Mathlib.Nat.{one-le-pow}
use lib.Dec.{lit<, lit≤}
use Rattle.logarithm.specs.Logarithms.{scale, base_numerator, base_denominator, power_whole, middle_base, upper_base}
use Rattle.logarithm.proofs.Pade.{num, den, Short}
use Rattle.logarithm.proofs.Exponents.{Low, High, third-low, third-high, raised, scaled-low, scaled-high}

-- ---- the base to the power 2 ^ 37, between two fractions

unfoldable small : ℕ
small = 137438953472

less : 4503599627370495 + 1 ≡ scale
unfolding scale
less = refl

small-sum : 4503599627370495 ≡ 4503462188417023 + small
unfolding small
small-sum = refl

small_all : 4503462188417024 + small ≡ scale
unfolding small scale
small_all = refl

small-square : small * small + small ≤ 18889465931616019808256
unfolding small
small-square = lit≤ tt

small-short : Short 4503599627370495 1 18889465931616019808256
small-short = record { covers = lit≤ tt; few = lit≤ tt }

low-pos : 0 < den 4503462188417023 small
unfolding small
low-pos = lit< tt

high-pos : 0 < den 4503462188417024 small
unfolding small
high-pos = lit< tt

small_low : num 4503462188417023 small * base_denominator ^ small ≤ den 4503462188417023 small * base_numerator ^ small
small_low = third-low small 4503462188417023 1 18889465931616019808256 4503599627370495 small-sum less small-square small-short

small-high : den 4503462188417024 small * base_numerator ^ small ≤ num 4503462188417024 small * base_denominator ^ small
small-high = third-high small 4503462188417024 small_all

-- and to n times that, in parts of 2 ^ 60

module _ (b n : ℕ) where
  power-low : b * den 4503462188417023 small ^ n ≤ power_whole * num 4503462188417023 small ^ n → Low power_whole b (small * n)
  power-low h =
      scaled-low power_whole b (num 4503462188417023 small ^ n) (den 4503462188417023 small ^ n) (small * n) (one-le-pow n _ low-pos)
      (raised (num 4503462188417023 small) (den 4503462188417023 small) base_denominator base_numerator small n small_low) h

  power-high : power_whole * num 4503462188417024 small ^ n ≤ b * den 4503462188417024 small ^ n → High power_whole b (small * n)
  power-high h =
      scaled-high power_whole b (den 4503462188417024 small ^ n) (num 4503462188417024 small ^ n) (small * n) (one-le-pow n _ high-pos)
      (raised (den 4503462188417024 small) (num 4503462188417024 small) base_numerator base_denominator small n small-high) h

-- ---- to the powers 2 ^ 37 and 2 ^ 47

middle-exponent : small * 1 ≡ 137438953472
unfolding small
middle-exponent = refl

middle-low-test : middle_base * den 4503462188417023 small ^ 1 ≤ power_whole * num 4503462188417023 small ^ 1
unfolding middle_base small power_whole
middle-low-test = lit≤ tt

middle-high-test : power_whole * num 4503462188417024 small ^ 1 ≤ (middle_base + 30) * den 4503462188417024 small ^ 1
unfolding middle_base small power_whole
middle-high-test = lit≤ tt

pub middle-low : Low power_whole middle_base 137438953472
middle-low = rw middle-exponent at (power-low middle_base 1 middle-low-test)

pub middle-high : High power_whole (middle_base + 30) 137438953472
middle-high = rw middle-exponent at (power-high (middle_base + 30) 1 middle-high-test)

upper-exponent : small * 1024 ≡ 140737488355328
unfolding small
upper-exponent = refl

upper-low-test : upper_base * den 4503462188417023 small ^ 1024 ≤ power_whole * num 4503462188417023 small ^ 1024
unfolding upper_base small power_whole
upper-low-test = lit≤ tt

upper-high-test : power_whole * num 4503462188417024 small ^ 1024 ≤ (upper_base + 30) * den 4503462188417024 small ^ 1024
unfolding upper_base small power_whole
upper-high-test = lit≤ tt

pub upper-low : Low power_whole upper_base 140737488355328
upper-low = rw upper-exponent at (power-low upper_base 1024 upper-low-test)

pub upper-high : High power_whole (upper_base + 30) 140737488355328
upper-high = rw upper-exponent at (power-high (upper_base + 30) 1024 upper-high-test)
