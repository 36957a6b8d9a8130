-- Laws of the product, and how a product over 10 ^ 12 is taken in parts: one number cut by 2 ^ 12 and the other by 5 ^ 12.
use mathlib.Core.Path.{◌≡◌, ap, sym, ◌∙◌}
use Prim.Native.Nat.{ℕ, ◌+◌, ◌*◌, ◌/◌, ◌%◌, ◌≤◌, ◌<◌}
use native.Mathlib.Nat.{mul-le-mul, mul-le-mul_left, le_trans, add_comm, add-mul-div_right, div-div-eq-div-mul, div-add-mod', div-mul-le_self, lt-div-mul-add, div-le_of_le-mul, le-div_iff_mul-le}
use native.Mathlib.Omega.{arith}
use lib.Dec.{lit<}
use Rattle.decimal.specs.Product.{unit, product}

abbrev pub two_power : ℕ
two_power = 4096

abbrev pub five_power : ℕ
five_power = 244_140_625

-- with a₁, a₀ and b₁, b₀ for the parts of a and b
module _ (a₁ a₀ b₁ b₀ : ℕ) where
  -- the product and m more over 2 ^ 12
  first : (b m : ℕ) → ((a₁ * two_power + a₀) * b + m) / two_power ≡ (a₀ * b + m) / two_power + a₁ * b
  first b m =
      let e : (a₁ * two_power + a₀) * b + m ≡ a₀ * b + m + a₁ * b * two_power = omega arith in
      ap (λ (n : ℕ). n / two_power) e ∙ add-mul-div_right (a₀ * b + m) (a₁ * b) (lit< tt)

  -- and that over 5 ^ 12
  second : (u : ℕ) → (u + a₁ * (b₁ * five_power + b₀)) / five_power ≡ a₁ * b₁ + (a₁ * b₀ + u) / five_power
  second u =
      let e : u + a₁ * (b₁ * five_power + b₀) ≡ a₁ * b₀ + u + a₁ * b₁ * five_power = omega arith in
      ap (λ (n : ℕ). n / five_power) e ∙ add-mul-div_right (a₁ * b₀ + u) (a₁ * b₁) (lit< tt) ∙ add_comm ((a₁ * b₀ + u) / five_power) (a₁ * b₁)

pub over-by-parts : (a b m : ℕ)
    → (a / two_power) * (b / five_power) + ((a / two_power) * (b % five_power) + ((a % two_power) * b + m) / two_power) / five_power ≡ (a * b + m) / unit
unfolding unit
over-by-parts a b m =
    sym (second (a / two_power) (a % two_power) (b / five_power) (b % five_power) (((a % two_power) * b + m) / two_power))
    ∙ ap (λ (n : ℕ). (((a % two_power) * b + m) / two_power + (a / two_power) * n) / five_power) (div-add-mod' b five_power)
    ∙ ap (λ (n : ℕ). n / five_power) (sym (first (a / two_power) (a % two_power) (b / five_power) (b % five_power) b m))
    ∙ ap (λ (n : ℕ). (n * b + m) / two_power / five_power) (div-add-mod' a two_power)
    ∙ div-div-eq-div-mul (a * b + m) two_power five_power

-- what `over_unit` is proved by: its partial products fit, and come to the whole
pub ruleset parts = (mul-le-mul, over-by-parts)

-- ---- a product lies within one below the quotient, is at most its first factor, and grows with both

pub unit-pos : 0 < unit
unfolding unit
unit-pos = lit< tt

pub product-low : (a b : ℕ) → product a b * unit ≤ a * b
unfolding product
product-low a b = div-mul-le_self (a * b) unit

pub product_high : (a b : ℕ) → a * b < product a b * unit + unit
unfolding product
product_high a b = lt-div-mul-add unit-pos

pub product_le : (a b : ℕ) → b ≤ unit → product a b ≤ a
unfolding product
product_le a b h = div-le_of_le-mul unit (omega (arith, mul-le-mul_left a h))

pub product-mono : {a b c d : ℕ} → a ≤ b → c ≤ d → product a c ≤ product b d
unfolding product
product-mono {a} {b} {c} {d} h k = (le-div_iff_mul-le unit-pos).1 (le_trans (div-mul-le_self (a * c) unit) (mul-le-mul h k))
