-- One rounded product, and many: how far the result is from the exact one.
use Prim.Native.Nat.{ℕ, zero, suc, ◌+◌, ◌-◌, ◌*◌, ◌^◌, ◌≤◌}
use mathlib.Core.Path.{◌≡◌}
use native.Mathlib.Nat.{le_refl, le_trans, mul-le-mul_left, mul-le-mul_right, le_of_mul-le-mul_right, pow-zero, pow-suc, mul-zero, add-zero}
use native.Mathlib.Omega.{arith}
use Rattle.laws.proofs.Powers.{sub-mul}
use Rattle.decimal.specs.Product.{unit, product}
use Rattle.decimal.proofs.Products.{unit-pos, product-low, product_high}
use Rattle.discount.specs.Discount.{compound}
use Rattle.discount.proofs.Compounding.{compound-le}

-- ---- from below: y is at most one under unit * num / den, and so a product with y loses at most 2 against num / den

module _ (y num den : ℕ) (near : unit * num ≤ suc y * den) (proper : num ≤ den) where
  low_step : (f t : ℕ) → f ≤ unit → (f + t) * num ≤ (product f y + (t + 2)) * den
  low_step f t l =
      let p : ℕ = product f y in
      let scaled : f * num * unit ≤ (p + 2) * den * unit =
      omega (arith, mul-le-mul_right den (product_high f y), mul-le-mul_left f near, mul-le-mul_right den l) in
      omega (arith, le_of_mul-le-mul_right scaled unit-pos, mul-le-mul_left t proper)

  pub compound-low : (a t k : ℕ) → a ≤ unit → y ≤ unit → (a + t) * num ^ k ≤ (compound a y k + (t + 2 * k)) * den ^ k
  unfolding compound
  compound-low a t zero l h = simp pow-zero (omega arith)
  compound-low a t (suc k) l h =
      let f : ℕ = compound a y k in
      let step : (f + (t + 2 * k)) * num ≤ (product f y + (t + 2 * k + 2)) * den = low_step f (t + 2 * k) (le_trans (compound-le a y k h) l) in
      simp pow-suc (omega (arith, mul-le-mul_right num (compound-low a t k l h), mul-le-mul_right (den ^ k) step))

-- ---- from above: y is at most u over unit * num / den, and so a product with y, less u, is at most the one with num / den

module _ (y num den u : ℕ) (near : y * den ≤ unit * num + u * den) (proper : num ≤ den) where
  high-step : (f t : ℕ) → f ≤ unit → (product f y - (t + u)) * den ≤ (f - t) * num
  high-step f t l =
      let p : ℕ = product f y in
      let scaled : p * den * unit ≤ (f * num + u * den) * unit =
      omega (arith, mul-le-mul_right den (product-low f y), mul-le-mul_left f near, mul-le-mul_right (u * den) l) in
      simp sub-mul (omega (arith, le_of_mul-le-mul_right scaled unit-pos, mul-le-mul_left t proper))

  pub compound-high : (a t k : ℕ) → a ≤ unit → y ≤ unit → (compound a y k - (t + u * k)) * den ^ k ≤ (a - t) * num ^ k
  unfolding compound
  compound-high a t zero l h = simp (pow-zero, mul-zero, add-zero) (le_refl _)
  compound-high a t (suc k) l h =
      let f : ℕ = compound a y k in
      let step : (product f y - (t + u * k + u)) * den ≤ (f - (t + u * k)) * num = high-step f (t + u * k) (le_trans (compound-le a y k h) l) in
      let same : t + u * suc k ≡ t + u * k + u = omega arith in
      simp (pow-suc, same) (omega (arith, mul-le-mul_right num (compound-high a t k l h), mul-le-mul_right (den ^ k) step))
