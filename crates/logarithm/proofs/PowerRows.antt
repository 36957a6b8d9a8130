-- The rows of the tables of powers are near the powers of the base, in parts of any number that goes into 2 ^ 60.
use mathlib.Core.Path.{◌≡◌, ap, subst}
use Prim.Native.Nat.{ℕ, zero, suc, ◌+◌, ◌*◌, ◌/◌, ◌^◌, ◌≤◌, ◌<◌}
use native.Mathlib.Nat.{le_refl, mul-le-mul_right, le_of_mul-le-mul_right, pow-zero, zero-mul, div-mul-le_self, lt-div-mul-add}
use native.Mathlib.Omega.{arith}
use Rattle.logarithm.specs.Logarithms.{base_numerator, base_denominator, power_whole, chain, middle_base, upper_base}
use Rattle.logarithm.proofs.Exponents.{Low, High}
use Rattle.logarithm.proofs.Ratios.{low_product, high_product}
use Rattle.logarithm.proofs.Rows.{power_pos, middle-le, upper-le, chain-le}
use Rattle.logarithm.proofs.Bases.{middle-low, middle-high, upper-low, upper-high}

-- ---- the powers of a base, each product rounded down: at most 32 more a step

module _ (b x : ℕ) where
  chain-low : Low power_whole b x → (j : ℕ) → Low power_whole (chain b j) (j * x)
  unfolding chain
  chain-low h zero = record { low = simp (zero-mul, pow-zero) (le_refl _) }
  chain-low h (suc j) =
      let same : j * x + x ≡ suc j * x = omega arith in
      subst (Low power_whole (chain b j * b / power_whole)) same (low_product power_whole power_pos (chain b j) b (j * x) x (chain-low h j) h)

  chain-high : b ≤ power_whole → High power_whole (b + 30) x → (j : ℕ) → 30 * (32 * j) ≤ power_whole → High power_whole (chain b j + 32 * j) (j * x)
  unfolding chain
  chain-high l h zero few = record { high = simp (zero-mul, pow-zero) (omega arith) }
  chain-high l h (suc j) few =
      let same : j * x + x ≡ suc j * x = omega arith in
      let wide : 32 * j + 30 + 2 ≡ 32 * suc j = omega arith in
      let next : High power_whole (chain b j * b / power_whole + (32 * j + 30 + 2)) (j * x + x) =
      high_product power_whole power_pos (chain b j) b (32 * j) 30 (j * x) x (chain-le b l j) l (omega arith) (chain-high l h j (omega arith)) h in
      rw (wide, same) at next

few-enough : (j : ℕ) → j ≤ 1024 → 30 * (32 * j) ≤ power_whole
unfolding power_whole
few-enough j l = omega arith

-- ---- in parts of z, which goes d times into 2 ^ 60

module _ (z d : ℕ) (parts : power_whole ≡ z * d) (wide : 32768 ≤ d) where
  part_low : (c x : ℕ) → Low power_whole c x → Low z (c / d) x
  part_low c x h =
      let scaled : c / d * base_denominator ^ x * d ≤ z * base_numerator ^ x * d =
      omega (arith, mul-le-mul_right (base_denominator ^ x) (div-mul-le_self c d), h.low, ap (λ (n : ℕ). n * base_numerator ^ x) parts) in
      record { low = le_of_mul-le-mul_right scaled (omega arith) }

  part-high : (c w x : ℕ) → w ≤ d → High power_whole (c + w) x → High z (c / d + 2) x
  part-high c w x l h =
      let cut : c < c / d * d + d = lt-div-mul-add (omega arith) in
      let all : c + w ≤ (c / d + 2) * d = omega arith in
      let scaled : z * base_numerator ^ x * d ≤ (c / d + 2) * base_denominator ^ x * d =
      omega (arith, mul-le-mul_right (base_denominator ^ x) all, h.high, ap (λ (n : ℕ). n * base_numerator ^ x) parts) in
      record { high = le_of_mul-le-mul_right scaled (omega arith) }

  module _ (j : ℕ) where
    pub middle-row-low : Low z (chain middle_base j / d) (j * 137438953472)
    middle-row-low = part_low _ _ (chain-low middle_base 137438953472 middle-low j)

    pub middle-row-high : j < 1024 → High z (chain middle_base j / d + 2) (j * 137438953472)
    middle-row-high l = part-high _ (32 * j) _ (omega arith) (chain-high middle_base 137438953472 middle-le middle-high j (few-enough j (omega arith)))

    pub upper-row-low : Low z (chain upper_base j / d) (j * 140737488355328)
    upper-row-low = part_low _ _ (chain-low upper_base 140737488355328 upper-low j)

    pub upper-row-high : j ≤ 333 → High z (chain upper_base j / d + 2) (j * 140737488355328)
    upper-row-high l = part-high _ (32 * j) _ (omega arith) (chain-high upper_base 140737488355328 upper-le upper-high j (few-enough j (omega arith)))
