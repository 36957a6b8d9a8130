-- The lowest 37 digits of an exponent: 1 - 2 x / scale is at most 6 parts of 2 ^ 31 under the base to the power x.
use mathlib.Core.Path.{◌≡◌, sym, ap, ◌∙◌}
use Prim.Native.Nat.{ℕ, ◌+◌, ◌-◌, ◌*◌, ◌/◌, ◌≤◌, ◌<◌}
use native.Mathlib.Nat.{le_trans, le_of_lt, mul-le-mul, mul-le-mul_left, mul-le-mul_right}
use native.Mathlib.Omega.{arith}
use lib.Dec.{lit≤}
use Rattle.logarithm.specs.Logarithms.{scale}
use Rattle.logarithm.proofs.Exponents.{Low, High, scale-is, base-low, base-high, scaled-low, scaled-high}
use Rattle.cheap.specs.Cheap.{whole}

-- with q for x / 2 ^ 20, b for what is left of z - 1, z for one, and p for scale - x: over plain numbers, so that `omega` meets no long ones
module _ (b q p x z : ℕ) (sum : b + q + 1 ≡ z) (left : p + x ≡ 2097152 * z) (cut : 1048576 * q ≤ x) (rest : x ≤ 1048576 * q + 1048576) where
  under-line : b * (p + 2 * x) ≤ z * p
  under-line =
      let all : (b + q + 1) * (p + 2 * x) ≡ z * (p + 2 * x) = ap (λ (n : ℕ). n * (p + 2 * x)) sum in
      let more : 2097152 * z ≤ p + 2 * x = omega arith in
      let twice : 2 * x ≤ 2097152 * q + 2097152 = omega arith in
      omega (arith, all, mul-le-mul_left (q + 1) more, mul-le-mul_left z twice)

  over-line : q * (4194305 + x) ≤ 10485760 * z → z * (4194305 + p) ≤ (b + 6) * (4194305 + p + 2 * x)
  over-line h =
      let all : (b + q + 1) * (4194305 + p + 2 * x) ≡ z * (4194305 + p + 2 * x) = ap (λ (n : ℕ). n * (4194305 + p + 2 * x)) sum in
      let parts : q * (p + x) ≡ q * (2097152 * z) = ap (λ (n : ℕ). q * n) left in
      let less : 2097152 * (q * z) ≤ 2 * (x * z) = omega (arith, mul-le-mul_right z cut) in
      omega (arith, all, parts, less, h, left)

module _ (x : ℕ) (l : x < 137438953472) where
  square : x * x + x ≤ 4194305 * (scale + 4194305)
  unfolding scale
  square = omega (arith, mul-le-mul_right x (le_of_lt l))

  abbrev p : ℕ
  p = 4503599627370496 - x

  abbrev q : ℕ
  q = x / 1048576

  abbrev b : ℕ
  b = 2147483647 - q

  sum : b + q + 1 ≡ 2147483648
  sum = omega arith

  left : p + x ≡ 2097152 * 2147483648
  left = omega arith

  few : q * (4194305 + x) ≤ 10485760 * 2147483648
  few =
      let h : q ≤ 131072 = omega arith in
      let k : 4194305 + x ≤ 137443147777 = omega arith in
      le_trans (mul-le-mul h k) (lit≤ tt)

  pub digits_low : Low whole b x
  unfolding whole
  digits_low =
      scaled-low whole b p (p + 2 * x) x (omega arith) (base-low x p (left ∙ sym scale-is))
      (under-line b q p x 2147483648 sum left (omega arith) (omega arith))

  pub digits-high : High whole (b + 6) x
  unfolding whole
  digits-high =
      scaled-high whole (b + 6) (4194305 + p + 2 * x) (4194305 + p) x (omega arith) (base-high x p 4194305 (left ∙ sym scale-is) square)
      (over-line b q p x 2147483648 sum left (omega arith) (omega arith) few)
