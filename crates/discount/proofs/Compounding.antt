-- Laws of `compound` and `power`: chains of products.
use mathlib.Core.Path.{◌≡◌, refl, ap, sym, ◌∙◌}
use Prim.Native.Nat.{ℕ, zero, suc, ◌+◌, ◌*◌, ◌/◌, ◌≤◌, ◌<◌}
use native.Mathlib.Nat.{le_refl, le_trans, mul-zero, zero-div}
use native.Mathlib.Numerals.{add-one}
use native.Mathlib.Omega.{arith}
use Rattle.decimal.specs.Product.{unit, product}
use Rattle.decimal.proofs.Products.{product_le, product-mono}
use Rattle.discount.specs.Discount.{compound, power}
use Rattle.discount.specs.Powers.{PowersBy}
use Rattle.discount.specs.declared.daily.Chains.{Chains}

pub compound-le : (a q k : ℕ) → q ≤ unit → compound a q k ≤ a
unfolding compound
compound-le a q zero h = le_refl a
compound-le a q (suc k) h = le_trans (product_le (compound a q k) q h) (compound-le a q k h)

pub compound-mono : (a k : ℕ) {p q : ℕ} → p ≤ q → compound a p k ≤ compound a q k
unfolding compound
compound-mono a zero h = le_refl a
compound-mono a (suc k) h = product-mono (compound-mono a k h) h

pub compound-grows : (q k : ℕ) {a b : ℕ} → a ≤ b → compound a q k ≤ compound b q k
unfolding compound
compound-grows q zero h = h
compound-grows q (suc k) h = product-mono (compound-grows q k h) (le_refl q)

-- a chain's next product, as a loop takes it
pub compound-next : (a q i : ℕ) {r s : ℕ} → s ≡ product r q → r ≡ compound a q i → s ≡ compound a q (i + 1)
unfolding compound
compound-next a q i h e = rw add-one (h ∙ ap (λ (n : ℕ). product n q) e)

pub compound-none : (a q : ℕ) → compound a q 0 ≡ a
unfolding compound
compound-none a q = refl

-- what a loop of products is proved by
pub ruleset chains = (compound-le, compound-next, compound-none)

-- ---- powers

pub power_le : (q k : ℕ) → q ≤ unit → power q k ≤ unit
unfolding power
power_le q k h = compound-le unit q k h

pub power-mono : {p q : ℕ} (k : ℕ) → p ≤ q → power p k ≤ power q k
unfolding power
power-mono k h = compound-mono unit k h

pub power_zero : (k : ℕ) → 0 < k → power 0 k ≡ 0
unfolding power compound product
power_zero zero h = omega arith
power_zero (suc k) h = simp (mul-zero, zero-div)

pub power-none : (q : ℕ) → power q 0 ≡ unit
unfolding power
power-none q = compound-none unit q

pub power-next : (q i : ℕ) {r s : ℕ} → s ≡ product r q → r ≡ power q i → s ≡ power q (i + 1)
unfolding power
power-next q i h e = compound-next unit q i h e

-- chains with the factor one stay as they are
pub power-one : (k : ℕ) → power unit k ≡ unit
unfolding unit power compound product
power-one zero = refl
power-one (suc k) = ap (λ (n : ℕ). n * unit / unit) (power-one k)

-- ---- two chains: the powers of a number and of the next one

pub powers-none : (q : ℕ) (c : Chains) → c.low.0 ≡ unit → c.high.0 ≡ unit → PowersBy q 0 c
powers-none q c l h = record { low-is = l ∙ sym (power-none q); high_is = h ∙ sym (power-none (q + 1)) }

pub powers-next : (q i : ℕ) (c d : Chains) → d.low.0 ≡ product c.low.0 q → d.high.0 ≡ product c.high.0 (q + 1) → PowersBy q i c → PowersBy q (i + 1) d
powers-next q i c d l h p = record { low-is = power-next q i l p.low-is; high_is = power-next (q + 1) i h p.high_is }

pub powers-le : (q i : ℕ) {c : Chains} → q < unit → PowersBy q i c → (c.low.0 ≤ unit) × (c.high.0 ≤ unit)
powers-le q i l p = (omega (arith, p.low-is, power_le q i (omega arith)), omega (arith, p.high_is, power_le (q + 1) i (omega arith)))

-- what runs of products are proved by
pub ruleset runs = (powers-none, powers-next, powers-le, power_le)
