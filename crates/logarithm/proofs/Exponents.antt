-- Numbers against powers of under / over, the base of the logarithms.
use mathlib.Core.Path.{◌≡◌, refl}
use Prim.Native.Nat.{ℕ, ◌+◌, ◌*◌, ◌^◌, ◌≤◌, ◌<◌}
use native.Mathlib.Nat.{mul-le-mul_left, mul-le-mul_right, le_of_mul-le-mul_right, pow-le-pow_left}
use native.Mathlib.Omega.{arith}
use lib.Dec.{lit<, lit≤}
use Rattle.laws.proofs.Powers.{mul-pow, pow-mul}
use Rattle.discount.specs.Discount.{million}
use Rattle.logarithm.specs.Logarithms.{scale, base_numerator, base_denominator}
use Rattle.logarithm.proofs.Cayley.{cayley-low, cayley-high}
use Rattle.logarithm.proofs.Pade.{num, den, Short, pade-low, pade-high}

-- c, in parts of z, is at most the base to the power x
pub record Low (z c x : ℕ) : Type 0 where
  pub low : c * base_denominator ^ x ≤ z * base_numerator ^ x

-- and at least
pub record High (z c x : ℕ) : Type 0 where
  pub high : z * base_numerator ^ x ≤ c * base_denominator ^ x

-- million / m is at most the base to the power e, and at least that to the power e + s
pub record Logged (m e s : ℕ) : Type 0 where
  pub most : million * base_denominator ^ e ≤ m * base_numerator ^ e
  pub least : m * base_numerator ^ (e + s) ≤ million * base_denominator ^ (e + s)

-- ---- the base

pub scale-is : scale ≡ 4503599627370496
unfolding scale
scale-is = refl

pub scale-pos : 0 < scale
unfolding scale
scale-pos = lit< tt

pub numerator-scale : base_numerator + 1 ≡ scale
unfolding scale base_numerator
numerator-scale = refl

pub numerator-denominator : base_numerator + 2 ≡ base_denominator
unfolding base_numerator base_denominator
numerator-denominator = refl

pub numerator-pos : 0 < base_numerator
unfolding base_numerator
numerator-pos = lit< tt

pub denominator-pos : 0 < base_denominator
unfolding base_denominator
denominator-pos = lit< tt

pub numerator-le : base_numerator ≤ base_denominator
unfolding base_numerator base_denominator
numerator-le = lit≤ tt

-- its powers, with p for scale - c
pub base-low : (c p : ℕ) → p + c ≡ scale → p * base_denominator ^ c ≤ (p + 2 * c) * base_numerator ^ c
base-low c p e = rw numerator-denominator at (cayley-low c p base_numerator (omega (arith, numerator-scale)))

pub base-high : (c p k : ℕ) → p + c ≡ scale → c * c + c ≤ k * (scale + k) → (k + p + 2 * c) * base_numerator ^ c ≤ (k + p) * base_denominator ^ c
base-high c p k e h = rw numerator-denominator at (cayley-high c p base_numerator k (omega (arith, numerator-scale)) (rw numerator-scale h))

-- to the third order
pub third-high : (c p : ℕ) → p + c ≡ scale → den p c * base_numerator ^ c ≤ num p c * base_denominator ^ c
third-high c p e = rw numerator-denominator at (pade-high c p base_numerator (omega (arith, numerator-scale)))

pub third-low : (c p k e t : ℕ) → t ≡ p + c → t + k ≡ scale → c * c + c ≤ e → Short t k e → num p c * base_denominator ^ c ≤ den p c * base_numerator ^ c
third-low c p k e t g h l s = rw numerator-denominator at (pade-low c p base_numerator k e t g (omega (arith, numerator-scale)) l s)

-- ---- raised to a power, and from a ratio to parts of z

pub raised : (a b c d x n : ℕ) → a * c ^ x ≤ b * d ^ x → a ^ n * c ^ (x * n) ≤ b ^ n * d ^ (x * n)
raised a b c d x n h = rw (pow-mul c x n, pow-mul d x n) (simp mul-pow at (pow-le-pow_left h n))

module _ (z c p q x : ℕ) where
  pub scaled-low : 0 < q → p * base_denominator ^ x ≤ q * base_numerator ^ x → c * q ≤ z * p → Low z c x
  scaled-low pos h k =
      let scaled : c * base_denominator ^ x * q ≤ z * base_numerator ^ x * q = omega (arith, mul-le-mul_right (base_denominator ^ x) k, mul-le-mul_left z h) in
      record { low = le_of_mul-le-mul_right scaled pos }

  pub scaled-high : 0 < p → p * base_numerator ^ x ≤ q * base_denominator ^ x → z * q ≤ c * p → High z c x
  scaled-high pos h k =
      let scaled : z * base_numerator ^ x * p ≤ c * base_denominator ^ x * p = omega (arith, mul-le-mul_right (base_denominator ^ x) k, mul-le-mul_left z h) in
      record { high = le_of_mul-le-mul_right scaled pos }
