-- Where the quotient alone is above the largest amount, so is the amount.
use Prim.Native.Nat.{ℕ, ◌*◌, ◌/◌, ◌<◌}
use native.Mathlib.Nat.{mul-le-mul_right, lt-div-mul-add}
use native.Mathlib.Omega.{arith}
use Rattle.decimal.specs.Product.{unit}
use Rattle.decimal.specs.HalfUp.{indexed_by, scaled_to}
use Rattle.decimal.proofs.HalfUp.{half-up-out}
use Rattle.decimal.proofs.round.indexed_by.Goals as goal

-- a quotient above the largest amount over s is above that amount with s alone
above : (s w : ℕ) → 0 < s → 1000000000000 / s < w → 1000000000000 < w * s
above s w h l = omega (arith, lt-div-mul-add {a = 1000000000000} {b = s} h, mul-le-mul_right s l)

pub returns-then-settlement-whole : goal.returns-then-settlement-whole
unfolding unit indexed_by scaled_to
returns-then-settlement-whole c =
    let a = c.args in
    let pre = c.requires in
    let e = half-up-out a.payment a.settlement a.issue pre.3 in
    let h = above a.settlement (a.payment / a.issue) pre.1 c.if-settlement-whole.true in
    grind arith
