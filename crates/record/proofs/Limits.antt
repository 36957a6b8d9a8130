-- What a number's limits say of it, where it is used and where it is not.
use mathlib.Core.Path.{◌≡◌}
use mathlib.Core.Bool.{Bool, true, false, true≢false, false≢true}
use Prim.Native.Nat.{ℕ, ◌-◌, ◌*◌, ◌≤◌}
use native.Mathlib.Nat.{mul-le-mul}
use native.Mathlib.Omega.{arith}
use lib.Dec.{leb}
use borrow.Author.Tests.{eqb-true, leb-true}
use Rattle.laws.proofs.Bools.{both}
use Rattle.record.specs.Uses.{in_limits, used_in_limits, asked}
use Rattle.record.specs.Rules.{counts_fit}

pub record InLimits (least x most : ℕ) : Type 0 where
  pub low : least ≤ x
  pub high : x ≤ most

pub in-limits : (least x most : ℕ) → in_limits least x most ≡ true → InLimits least x most
in-limits least x most h =
    let p = both (leb least x) (leb x most) h in
    record { low = leb-true least x p.0; high = leb-true x most p.1 }

pub used : (u : Bool) (least x most : ℕ) → used_in_limits u least x most ≡ true → u ≡ true → InLimits least x most
used true least x most h e = in-limits least x most h
used false least x most h e = absurd (false≢true e)

pub unused : (u : Bool) (least x most : ℕ) → used_in_limits u least x most ≡ true → u ≡ false → x ≡ 0
unused true least x most h e = absurd (true≢false e)
unused false least x most h e = eqb-true x 0 h

-- used or not, it is at most its limit
pub at_most : (u : Bool) (least x most : ℕ) → used_in_limits u least x most ≡ true → x ≤ most
at_most true least x most h = (in-limits least x most h).high
at_most false least x most h = omega (arith, eqb-true x 0 h)

-- a rule that was asked holds
pub asked-true : (u rule : Bool) → asked u rule ≡ true → u ≡ true → rule ≡ true
asked-true true rule h e = h
asked-true false rule h e = absurd (false≢true e)

pub record CouponCounts (period payments : ℕ) : Type 0 where
  pub apart : InLimits 1 period 366
  pub some : InLimits 1 payments 120
  pub span : (payments - 1) * period ≤ 119 * 366

pub coupon-counts : (period payments : ℕ) → counts_fit period payments ≡ true → CouponCounts period payments
coupon-counts period payments h =
    let p = both (in_limits 1 period 366) (in_limits 1 payments 120) h in
    let a = in-limits 1 period 366 p.0 in
    let b = in-limits 1 payments 120 p.1 in
    record { apart = a; some = b; span = mul-le-mul {n₂ = 119} {m₂ = 366} (omega arith) a.high }
