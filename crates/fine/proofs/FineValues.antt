-- Where document 01's factor lies within a bracket, and both ends give an amount the same value, that is its present value.
use mathlib.Core.Path.{◌≡◌, refl}
use mathlib.Core.Bool.{Bool, true, false, cond}
use Rattle.std.specs.Prelude.{nat_eq, IfOk, Ok, Err}
use Prim.Native.Nat.{ℕ, ◌*◌, ◌≤◌, ◌<◌}
use native.Mathlib.Nat.{mul-le-mul_left}
use native.Mathlib.Omega.{arith}
use borrow.Author.Tests.{eqb-true}
use Rattle.decimal.specs.Product.{unit}
use Rattle.decimal.specs.HalfUp.{half_up, discounted}
use Rattle.decimal.proofs.Products.{unit-pos}
use Rattle.decimal.proofs.HalfUp.{half-up-across}
use Rattle.discount.specs.Discount.{factor, present_value}
use Rattle.logarithm.specs.Logarithms.{fine_whole}
use Rattle.logarithm.proofs.Rows.{fine-pos}
use Rattle.fine.specs.Fine.{bracket_at, InBracket}
use Rattle.fine.specs.FineValue.{fine_value_in, fine_value_at}
use Rattle.fine.specs.declared.bracket.Bracket.{Bracket}
use Rattle.fine.proofs.Bound.{fine-between}

-- f, in parts of u, between l and h, in parts of z
ends-agree : (a f u l h z : ℕ) → 0 < u → 0 < z → l * u ≤ f * z → f * z ≤ h * u → half_up (a * l) z ≡ half_up (a * h) z → half_up (a * l) z ≡ half_up (a * f) u
ends-agree a f u l h z pu pz least most same =
    let low : half_up (a * l) z ≤ half_up (a * f) u = half-up-across (a * l) (a * f) z u pz pu (omega (arith, mul-le-mul_left a least)) in
    let high : half_up (a * f) u ≤ half_up (a * h) z = half-up-across (a * f) (a * h) u z pu pz (omega (arith, mul-le-mul_left a most)) in
    omega (arith, low, high, same)

-- what both ends give an amount
pub agreed : (a r days : ℕ) (b : Bracket) → InBracket b r days → half_up (a * b.low) fine_whole ≡ half_up (a * b.high) fine_whole
    → half_up (a * b.low) fine_whole ≡ present_value a r days
unfolding present_value discounted
agreed a r days b n same = ends-agree a (factor r days) unit b.low b.high fine_whole unit-pos fine-pos n.least n.most same

pub bracket-known : (a r days : ℕ) (b : Bracket) → InBracket b r days → IfOk (fine_value_in a b) (λ v. v ≡ present_value a r days)
unfolding fine_value_in
bracket-known a r days b n = go (nat_eq low high) refl
  where
    low : ℕ
    low = half_up (a * b.low) fine_whole

    high : ℕ
    high = half_up (a * b.high) fine_whole

    go : (t : Bool) → nat_eq low high ≡ t → IfOk (cond t (Ok low) (Err low)) (λ v. v ≡ present_value a r days)
    go true e = agreed a r days b n (eqb-true _ _ e)
    go false e = tt

-- a value that is known from the fine factor is the present value
pub fine-known : (a r days : ℕ) → r ≤ 1000000 → days ≤ 10950 → IfOk (fine_value_at a r days) (λ v. v ≡ present_value a r days)
unfolding fine_value_at
fine-known a r days l k = bracket-known a r days (bracket_at r days) (fine-between r days l k)
