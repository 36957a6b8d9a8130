-- Powers of the base of the logarithms are above their tangents, and so logarithms under theirs.
use mathlib.Core.Path.{◌≡◌}
use Prim.Native.Nat.{ℕ, zero, suc, ◌+◌, ◌-◌, ◌*◌, ◌^◌, ◌≤◌, ◌<◌}
use native.Mathlib.Nat.{mul-le-mul_left, mul-le-mul_right, le_of_mul-le-mul_right, pow-zero, pow-suc, pow-le-pow_left, one-le-pow}
use native.Mathlib.Decide.{dec_le}
use native.Mathlib.Omega.{arith}
use lib.Dec.{lit<}
use lib.Pow.{pow-add}
use Rattle.discount.specs.Discount.{million}
use Rattle.logarithm.specs.Logarithms.{scale, base_numerator, base_denominator}
use Rattle.logarithm.proofs.Exponents.{Low, High, Logged, denominator-pos, numerator-scale, numerator-denominator}

-- ---- powers of a / (a + 2), with a ≤ s ≤ a + 2

module _ (a s : ℕ) (low : a ≤ s) (high : s ≤ a + 2) where
  -- at most s / (s + 2 c)
  fallen-most : (c : ℕ) → (s + 2 * c) * a ^ c ≤ s * (a + 2) ^ c
  fallen-most zero = simp pow-zero (omega arith)
  fallen-most (suc c) =
      let ih = fallen-most c in
      let step : (s + 2 * suc c) * a ≤ (s + 2 * c) * (a + 2) = omega arith in
      let all : (s + 2 * suc c) * (a ^ c * a) ≤ s * ((a + 2) ^ c * (a + 2)) =
      omega (arith, mul-le-mul_right (a ^ c) step, mul-le-mul_right (a + 2) ih) in
      simp pow-suc all

  -- at least 1 - 2 c / s
  fallen-least : (c : ℕ) → s * (a + 2) ^ c ≤ s * a ^ c + 2 * c * (a + 2) ^ c
  fallen-least zero = simp pow-zero (omega arith)
  fallen-least (suc c) =
      let ih = fallen-least c in
      let less : a ^ c ≤ (a + 2) ^ c = pow-le-pow_left (omega arith) c in
      let all : s * ((a + 2) ^ c * (a + 2)) ≤ s * (a ^ c * a) + 2 * suc c * ((a + 2) ^ c * (a + 2)) =
      omega (arith, mul-le-mul_right (a + 2) ih, mul-le-mul_left (2 * s) less, mul-le-mul_right (2 * (a + 2) ^ c) high) in
      simp pow-suc all

base-most : (c : ℕ) → (scale + 2 * c) * base_numerator ^ c ≤ scale * base_denominator ^ c
base-most c = rw numerator-denominator at (fallen-most base_numerator scale (omega (arith, numerator-scale)) (omega (arith, numerator-scale)) c)

base-least : (c : ℕ) → scale * base_denominator ^ c ≤ scale * base_numerator ^ c + 2 * c * base_denominator ^ c
base-least c = rw numerator-denominator at (fallen-least base_numerator scale (omega (arith, numerator-scale)) (omega (arith, numerator-scale)) c)

-- ---- c / z is at most the base to the power x, and d / y at least the base to the power w: d / y is above the tangent of c / z

module _ (z c x y d w : ℕ) (low : Low z c x) (high : High y d w) where
  -- w is k behind x
  later : (k : ℕ) → w ≡ x + k → scale * c * y ≤ scale * d * z + 2 * k * c * y
  later k e =
      let h : y * (base_numerator ^ x * base_numerator ^ k) ≤ d * (base_denominator ^ x * base_denominator ^ k) = rw (← pow-add base_numerator x k, ← pow-add base_denominator x k, ← e) high.high in
      let scaled : scale * c * y * (base_denominator ^ x * base_denominator ^ k) ≤ (scale * d * z + 2 * k * c * y) * (base_denominator ^ x * base_denominator ^ k) =
      all (base_denominator ^ x) (base_denominator ^ k) (base_numerator ^ x) (base_numerator ^ k) low.low h (base-least k) in
      le_of_mul-le-mul_right scaled (rw (← pow-add base_denominator x k) (one-le-pow (x + k) base_denominator denominator-pos))
    where
      all : (ox ok ux uk : ℕ) → c * ox ≤ z * ux → y * (ux * uk) ≤ d * (ox * ok) → scale * ok ≤ scale * uk + 2 * k * ok
          → scale * c * y * (ox * ok) ≤ (scale * d * z + 2 * k * c * y) * (ox * ok)
      all ox ok ux uk l h b =
          omega (arith, mul-le-mul_left (c * y * ox) b, mul-le-mul_right (scale * y * uk) l, mul-le-mul_left (scale * z) h)

  -- k before it
  earlier : (k : ℕ) → x ≡ w + k → (scale + 2 * k) * c * y ≤ scale * d * z
  earlier k e =
      let l : c * (base_denominator ^ w * base_denominator ^ k) ≤ z * (base_numerator ^ w * base_numerator ^ k) = rw (← pow-add base_numerator w k, ← pow-add base_denominator w k, ← e) low.low in
      let scaled : (scale + 2 * k) * c * y * (base_denominator ^ w * base_denominator ^ k) ≤ scale * d * z * (base_denominator ^ w * base_denominator ^ k) =
      all (base_denominator ^ w) (base_denominator ^ k) (base_numerator ^ w) (base_numerator ^ k) l high.high (base-most k) in
      le_of_mul-le-mul_right scaled (rw (← pow-add base_denominator w k) (one-le-pow (w + k) base_denominator denominator-pos))
    where
      all : (ow ok uw uk : ℕ) → c * (ow * ok) ≤ z * (uw * uk) → y * uw ≤ d * ow → (scale + 2 * k) * uk ≤ scale * ok
          → (scale + 2 * k) * c * y * (ow * ok) ≤ scale * d * z * (ow * ok)
      all ow ok uw uk l h b =
          omega (arith, mul-le-mul_left ((scale + 2 * k) * y) l, mul-le-mul_left (y * z * uw) b, mul-le-mul_left (scale * ok * z) h)

  pub above-tangent : scale * c * y + 2 * x * c * y ≤ scale * d * z + 2 * w * c * y
  above-tangent =
      elim (dec_le x w) [
        | yes l ↦ (let e : w ≡ x + (w - x) = omega arith in omega (arith, later (w - x) e, moved_up (w - x) e))
        | no l ↦ (let e : x ≡ w + (x - w) = omega arith in omega (arith, earlier (x - w) e, moved_down (x - w) e))
      ]
    where
      moved_up : (k : ℕ) → w ≡ x + k → 2 * w * c * y ≡ 2 * x * c * y + 2 * k * c * y
      moved_up k e = rw e (omega arith)

      moved_down : (k : ℕ) → x ≡ w + k → 2 * x * c * y ≡ 2 * w * c * y + 2 * k * c * y
      moved_down k e = rw e (omega arith)

-- ---- logarithms: that of n is at most where the tangent at m is

million-pos : 0 < million
unfolding million
million-pos = lit< tt

pub under-tangent : (m e n f t : ℕ) → Logged m e t → Logged n f t → 2 * m * f + scale * m ≤ 2 * m * e + scale * n + 2 * m * t
under-tangent m e n f t g h =
    let all = above-tangent n million f m million (e + t) (record { low = h.most }) (record { high = g.least }) in
    let scaled : (2 * m * f + scale * m) * million ≤ (2 * m * e + scale * n + 2 * m * t) * million = omega (arith, all) in
    le_of_mul-le-mul_right scaled million-pos
