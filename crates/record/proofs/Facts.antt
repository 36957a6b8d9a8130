-- What the rules 8, 9 and 10, where they are not broken, say of a record's fields.
use mathlib.Core.Path.{◌≡◌}
use mathlib.Core.Bool.{Bool, true, false, ◌&&◌, ◌||◌, not, cond}
use mathlib.Core.Logic.{⊎_elim}
use Prim.Native.Nat.{◌-◌, ◌≤◌, ◌<◌}
use native.Mathlib.Omega.{arith}
use lib.Dec.{eqb, leb, ltb}
use borrow.Author.Tests.{eqb-true, leb-true, ltb-true, not-false}
use Rattle.laws.proofs.Bools.{both, three, four, six, either, first-arm, other_arm}
use Rattle.ground.specs.Limits.{last_day}
use Rattle.decimal.specs.Product.{unit}
use Rattle.record.specs.declared.Form.{Form}
use Rattle.record.specs.declared.Days.{Days}
use Rattle.record.specs.declared.Amounts.{Amounts}
use Rattle.record.specs.declared.Curves.{Curves}
use Rattle.record.specs.Uses.{last_payment_day, in_limits, used_in_limits, asked, is_outright, is_pool, is_specified, has_settled, has_security, has_coupons, is_indexed}
use Rattle.record.specs.Rules.{phase_fits, security_fits, curves_fit, breaks_form, in_reach, legs_ahead, second_leg_ahead, value_days_fit, first_payment_fits}
use Rattle.record.specs.Rules.{counts_fit, coupon_days_fit, breaks_days, unused_days_fit, principals_fit, price_fits, coupons_fit, indices_fit, breaks_amounts}
use Rattle.record.proofs.Limits.{InLimits, in-limits, used, unused, at_most, asked-true, CouponCounts, coupon-counts}

-- ---- 8

-- the kinds, with the phases of each
pub data Kind (f : Form) : Type 0 where
  outright : f.kind ≡ 1 → f.phase ≡ 0 → Kind f
  pool : f.kind ≡ 2 → InLimits 1 f.phase 3 → Kind f
  specified : f.kind ≡ 3 → InLimits 1 f.phase 2 → Kind f

kind-of : (f : Form) → phase_fits f.kind f.phase ≡ true → Kind f
kind-of f h =
    let o = is_outright f.kind && eqb f.phase 0 in
    let p = is_pool f.kind && in_limits 1 f.phase 3 in
    let s = is_specified f.kind && in_limits 1 f.phase 2 in
    ⊎_elim
    (λ e. ⊎_elim
    (λ a. let b = both (is_outright f.kind) (eqb f.phase 0) a in outright (eqb-true _ 1 b.0) (eqb-true _ 0 b.1))
    (λ a. let b = both (is_pool f.kind) (in_limits 1 f.phase 3) a in pool (eqb-true _ 2 b.0) (in-limits 1 _ 3 b.1))
    (either o p e))
    (λ a. let b = both (is_specified f.kind) (in_limits 1 f.phase 2) a in specified (eqb-true _ 3 b.0) (in-limits 1 _ 2 b.1))
    (either (o || p) s h)

pub record Formed (curves : Curves) (f : Form) : Type 0 where
  pub kinds : Kind f
  pub sides : InLimits 1 f.side 2
  pub securities : f.security ≤ 3
  pub cash : InLimits 1 f.cashcurve curves.count
  pub held : has_security f.security ≡ true → InLimits 1 f.securitycurve curves.count
  pub bare : has_security f.security ≡ false → f.securitycurve ≡ 0

pub formed : (curves : Curves) (f : Form) → breaks_form curves f ≡ false → Formed curves f
unfolding breaks_form
formed curves f h =
    let p = four (phase_fits f.kind f.phase) (in_limits 1 f.side 2) (security_fits f) (curves_fit curves.count f) (not-false _ h) in
    let s = used_in_limits (has_security f.security) 1 f.securitycurve curves.count in
    let q = both (in_limits 1 f.cashcurve curves.count) s p.1.1.1 in
    record {
      kinds = kind-of f p.0;
      sides = in-limits 1 _ 2 p.1.0;
      securities = at_most (not (is_pool f.kind && eqb f.phase 1)) 1 f.security 3 p.1.1.0;
      cash = in-limits 1 _ _ q.0;
      held = λ e. used (has_security f.security) 1 f.securitycurve curves.count q.1 e;
      bare = λ e. unused (has_security f.security) 1 f.securitycurve curves.count q.1 e;
    }

-- ---- 9

pub record Coupons (d : Days) : Type 0 where
  pub number : CouponCounts d.period d.payments
  pub last : last_payment_day d.first d.period d.payments ≤ last_day

pub record DaysKept (f : Form) (d : Days) : Type 0 where
  pub bought : is_outright f.kind ≡ true → d.valueday1 ≤ last_day
  pub lent : is_outright f.kind ≡ false → (d.term ≤ 730) × (d.valueday2 ≤ last_day)
  pub ahead : is_outright f.kind ≡ false → has_settled f.kind f.phase ≡ false → d.valueday1 < d.valueday2
  pub paid : has_security f.security ≡ true → d.first ≤ last_day
  pub coupons : has_coupons f.security ≡ true → Coupons d

-- a repo's two cases
module _ (d : Days) where
  ahead-tests : legs_ahead d ≡ true → (InLimits 1 d.term 730) × ((d.valueday1 < d.valueday2) × (d.valueday2 ≤ last_day))
  ahead-tests h =
      let p = four (in_limits 1 d.term 730) (ltb d.valueday1 d.valueday2) (eqb (d.valueday2 - d.valueday1) d.term) (in_reach d.valueday2) h in
      (in-limits 1 d.term 730 p.0, (ltb-true d.valueday1 d.valueday2 p.1.0, leb-true d.valueday2 last_day p.1.1.1))

  repo-days : (settled : Bool) → cond settled (second_leg_ahead d) (legs_ahead d) ≡ true → (d.term ≤ 730) × (d.valueday2 ≤ last_day)
  repo-days true h =
      let p = both (in_limits 1 d.term 730) (leb d.valueday2 d.term) h in
      let t = in-limits 1 d.term 730 p.0 in
      (t.high, omega (arith, leb-true d.valueday2 d.term p.1))
  repo-days false h = let p = ahead-tests h in (p.0.high, p.1.1)

pub days-kept : (f : Form) (d : Days) → breaks_days f d ≡ false → DaysKept f d
unfolding breaks_days
days-kept f d h =
    let o = is_outright f.kind in
    let s = has_settled f.kind f.phase in
    let repo = cond s (second_leg_ahead d) (legs_ahead d) in
    let paying = has_security f.security in
    let coupons = has_coupons f.security in
    let rule = coupon_days_fit d.first d.period d.payments in
    let p = three (value_days_fit f d) (asked paying (first_payment_fits f d)) (asked coupons rule) (not-false _ h) in
    record {
      bought = λ e. leb-true d.valueday1 last_day (first-arm o (in_reach d.valueday1) repo p.0 e);
      lent = λ e. repo-days d s (other_arm o (in_reach d.valueday1) repo p.0 e);
      ahead = λ e g. (ahead-tests d (other_arm s (second_leg_ahead d) (legs_ahead d) (other_arm o (in_reach d.valueday1) repo p.0 e) g)).1.0;
      paid = λ e.
          let after = cond s (ltb 0 d.first) (ltb d.valueday1 d.first) in
          leb-true d.first last_day (both after (in_reach d.first) (asked-true paying (first_payment_fits f d) p.1.0 e)).1;
      coupons = λ e.
          let q = both (counts_fit d.period d.payments) (in_reach (last_payment_day d.first d.period d.payments)) (asked-true coupons rule p.1.1 e) in
          record { number = coupon-counts d.period d.payments q.0; last = leb-true _ last_day q.1 };
    }

-- ---- 10

pub record Priced (f : Form) (d : Days) (a : Amounts) : Type 0 where
  pub blank : f.blank ≡ 0
  pub bought : is_outright f.kind ≡ true → (d.valueday2 ≡ 0) × ((d.term ≡ 0) × ((a.cash ≡ 0) × (a.price ≤ 4000000)))
  pub lent : is_outright f.kind ≡ false → (a.accrued ≡ 0) × (a.price ≤ 1000000)
  pub settled : has_settled f.kind f.phase ≡ true → d.valueday1 ≡ 0
  pub bare : has_security f.security ≡ false → (d.first ≡ 0) × (a.nominal ≡ 0)
  pub flat : has_coupons f.security ≡ false → (d.period ≡ 0) × ((d.payments ≡ 0) × (a.coupon ≡ 0))
  pub plain : is_indexed f.security ≡ false → (a.index ≡ 0) × (a.issue ≡ 0)
  pub indexed : is_indexed f.security ≡ true → InLimits 1 a.index 10000000 × InLimits 1 a.issue 10000000
  pub nominal : a.nominal ≤ unit
  pub cash : a.cash ≤ unit
  pub accrued : a.accrued ≤ 1000000
  pub coupon : a.coupon ≤ 1000000

pub priced : (f : Form) (d : Days) (a : Amounts) → breaks_amounts f d a ≡ false → Priced f d a
unfolding breaks_amounts
priced f d a h =
    let o = is_outright f.kind in
    let s = has_settled f.kind f.phase in
    let paying = has_security f.security in
    let coupons = has_coupons f.security in
    let i = is_indexed f.security in
    let p = six (eqb f.blank 0) (unused_days_fit f d) (principals_fit f a) (price_fits f a) (coupons_fit f a) (indices_fit f a) (not-false _ h) in
    -- the days
    let no_leg = eqb d.valueday2 0 && eqb d.term 0 in
    let no_coupon = eqb d.period 0 && eqb d.payments 0 in
    let z = four (asked o no_leg) (asked s (eqb d.valueday1 0)) (asked (not paying) (eqb d.first 0)) (asked (not coupons) no_coupon) p.1.0 in
    -- the amounts
    let sums = both (used_in_limits paying 1 a.nominal unit) (used_in_limits (not o) 1 a.cash unit) p.1.1.0 in
    let rates = both (used_in_limits o 0 a.accrued 1000000) (used_in_limits coupons 0 a.coupon 1000000) p.1.1.1.1.0 in
    let ratio = both (used_in_limits i 1 a.index 10000000) (used_in_limits i 1 a.issue 10000000) p.1.1.1.1.1 in
    record {
      blank = eqb-true _ 0 p.0;
      bought = λ e.
          let q = both (eqb d.valueday2 0) (eqb d.term 0) (asked-true o no_leg z.0 e) in (
            eqb-true _ 0 q.0,
            (
              eqb-true _ 0 q.1,
              (
                unused (not o) 1 a.cash unit sums.1 (rw e),
                (in-limits 1 _ 4000000 (first-arm o (in_limits 1 a.price 4000000) (leb a.price 1000000) p.1.1.1.0 e)).high,
              ),
            ),
          );
      lent = λ e. (
        unused o 0 a.accrued 1000000 rates.0 e,
        leb-true _ 1000000 (other_arm o (in_limits 1 a.price 4000000) (leb a.price 1000000) p.1.1.1.0 e),
      );
      settled = λ e. eqb-true _ 0 (asked-true s (eqb d.valueday1 0) z.1.0 e);
      bare = λ e. (
        eqb-true _ 0 (asked-true (not paying) (eqb d.first 0) z.1.1.0 (rw e)),
        unused paying 1 a.nominal unit sums.0 e,
      );
      flat = λ e.
          let q = both (eqb d.period 0) (eqb d.payments 0) (asked-true (not coupons) no_coupon z.1.1.1 (rw e)) in
          (eqb-true _ 0 q.0, (eqb-true _ 0 q.1, unused coupons 0 a.coupon 1000000 rates.1 e));
      plain = λ e. (unused i 1 a.index 10000000 ratio.0 e, unused i 1 a.issue 10000000 ratio.1 e);
      indexed = λ e. (used i 1 a.index 10000000 ratio.0 e, used i 1 a.issue 10000000 ratio.1 e);
      nominal = at_most paying 1 a.nominal unit sums.0;
      cash = at_most (not o) 1 a.cash unit sums.1;
      accrued = at_most o 0 a.accrued 1000000 rates.0;
      coupon = at_most coupons 0 a.coupon 1000000 rates.1;
    }
