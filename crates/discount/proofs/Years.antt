-- From a step of a day and a step of a year to any number of days: m days to the year, n years and k days.
-- Both sides are raised to the m-th power, where a day's w / s is a year's (w / s) ^ m, to be compared with b / d.
use Prim.Native.Nat.{ℕ, ◌+◌, ◌*◌, ◌^◌, ◌≤◌, ◌<◌}
use native.Mathlib.Nat.{mul-le-mul_left, mul-le-mul_right, le_of_mul-le-mul_right, pow-le-pow_left, one-le-pow}
use native.Mathlib.Omega.{arith}
use lib.Pow.{pow-add}
use Rattle.laws.proofs.Powers.{mul-pow, pow-mul, pow-comm}

module _ (m n k s d b w : ℕ) (pos : 0 < s) where
  pub year-high : (g : ℕ) → g * (d ^ n * s ^ k) ≤ s * (w ^ k * b ^ n) → w ^ m * d ≤ s ^ m * b
      → g ^ m * d ^ (n * m + k) ≤ s ^ m * b ^ (n * m + k)
  year-high g h day =
      let raised : g ^ m * ((d ^ n) ^ m * (s ^ m) ^ k) ≤ s ^ m * ((w ^ m) ^ k * (b ^ n) ^ m) =
      simp (mul-pow, pow-comm s k m, pow-comm w k m) at (pow-le-pow_left h m) in
      let days : (w ^ m) ^ k * d ^ k ≤ (s ^ m) ^ k * b ^ k = simp mul-pow at (pow-le-pow_left day k) in
      let scaled : g ^ m * ((d ^ n) ^ m * d ^ k) * (s ^ m) ^ k ≤ s ^ m * ((b ^ n) ^ m * b ^ k) * (s ^ m) ^ k =
      omega (arith, mul-le-mul_right (d ^ k) raised, mul-le-mul_left (s ^ m * (b ^ n) ^ m) days) in
      simp (pow-add, pow-mul) (le_of_mul-le-mul_right scaled (one-le-pow k (s ^ m) (one-le-pow m s pos)))

  pub year-low : (g : ℕ) → s * (w ^ k * b ^ n) ≤ g * (d ^ n * s ^ k) → s ^ m * b ≤ w ^ m * d
      → s ^ m * b ^ (n * m + k) ≤ g ^ m * d ^ (n * m + k)
  year-low g h day =
      let raised : s ^ m * ((w ^ m) ^ k * (b ^ n) ^ m) ≤ g ^ m * ((d ^ n) ^ m * (s ^ m) ^ k) =
      simp (mul-pow, pow-comm s k m, pow-comm w k m) at (pow-le-pow_left h m) in
      let days : (s ^ m) ^ k * b ^ k ≤ (w ^ m) ^ k * d ^ k = simp mul-pow at (pow-le-pow_left day k) in
      let scaled : s ^ m * ((b ^ n) ^ m * b ^ k) * (s ^ m) ^ k ≤ g ^ m * ((d ^ n) ^ m * d ^ k) * (s ^ m) ^ k =
      omega (arith, mul-le-mul_right (d ^ k) raised, mul-le-mul_left (s ^ m * (b ^ n) ^ m) days) in
      simp (pow-add, pow-mul) (le_of_mul-le-mul_right scaled (one-le-pow k (s ^ m) (one-le-pow m s pos)))
