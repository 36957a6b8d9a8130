-- How large the amounts of flows can be.
use Prim.Native.Nat.{ℕ, ◌*◌, ◌≤◌}
use native.Mathlib.Nat.{mul-le-mul}
use native.Mathlib.Omega.{arith}
use Rattle.decimal.specs.Product.{unit}
use Rattle.decimal.specs.HalfUp.{millionths_of, interest_on, withholding_on}
use Rattle.trade.specs.declared.Security.{Security}
use Rattle.trade.specs.declared.Security.TheVariants.{Nothing, Single, Coupons, Indexed}
use Rattle.flows.specs.Legs.{nominal_of}
use Rattle.flows.specs.Limits.{SecurityLimits}
use Rattle.decimal.proofs.HalfUp.{half-up-at-most}

-- so many millionths of an amount, in units
pub millionths-bound : (amount millionths whole : ℕ) → amount ≤ unit → millionths ≤ whole * 1000000 → millionths_of amount millionths ≤ unit * whole
unfolding millionths_of
millionths-bound amount millionths whole h g =
    half-up-at-most (amount * millionths) 1000000 (unit * whole) (omega arith) (omega (arith, mul-le-mul {n₁ = amount} {n₂ = unit} h g))

pub interest-bound : (cash rate term : ℕ) → cash ≤ unit → rate ≤ 1000000 → term ≤ 730 → interest_on cash rate term ≤ 2 * unit
unfolding interest_on
interest-bound cash rate term h g l =
    let a : cash * rate ≤ unit * 1000000 = mul-le-mul h g in
    let b : cash * rate * term ≤ unit * 1000000 * 730 = mul-le-mul a l in
    half-up-at-most (cash * rate * term) 365000000 (2 * unit) (omega arith) (omega arith)

pub withholding-bound : (interest : ℕ) → withholding_on interest ≤ interest
unfolding withholding_on
withholding-bound interest = half-up-at-most (interest * 15) 100 interest (omega arith) (omega arith)

pub nominal-bound : (s : Security) → SecurityLimits s → nominal_of s ≤ unit
nominal-bound Nothing l = omega arith
nominal-bound (Single p) l = l.nominal
nominal-bound (Coupons b) l = l.nominal
nominal-bound (Indexed i) l = l.bond.nominal

pub ruleset bounds = (millionths-bound, interest-bound, withholding-bound, nominal-bound)
