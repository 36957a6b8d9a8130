-- What the rules leave of a record's trade: numbers that keep their limits.
use mathlib.Core.Path.{◌≡◌, refl, sym, ap, subst}
use mathlib.Core.Bool.{Bool, true, false}
use Prim.Native.Nat.{ℕ, zero, suc, ◌≤◌, ◌<◌}
use native.Mathlib.Omega.{arith}
use Rattle.ground.specs.Limits.{last_day}
use Rattle.record.specs.declared.Curves.{Curves}
use Rattle.record.specs.declared.Fields.{Fields}
use Rattle.record.specs.Uses.{is_outright, has_settled, has_security, has_coupons}
use Rattle.record.specs.Rules.{breaks_form, breaks_days, breaks_amounts}
use Rattle.record.proofs.Facts.{Kind, outright, pool, specified, Formed, formed, DaysKept, days-kept, Priced, priced}
use Rattle.trade.specs.Read.{security_of, outright_of, repo_of, pick_trade, coupon_bond_of, trade_of}
use Rattle.legs.specs.declared.Leg.{Leg}
use Rattle.flows.specs.Legs.{payments_of}
use Rattle.flows.specs.Limits.{BondLimits, SecurityLimits, OutrightLimits, RepoLimits, TradeLimits}

-- what the rules 8, 9 and 10 say
pub record SoundRecord (curves : Curves) (f : Fields) : Type 0 where
  pub form : Formed curves f.form
  pub days : DaysKept f.form f.days
  pub amounts : Priced f.form f.days f.amounts

module _ {curves : Curves} (f : Fields) (r : SoundRecord curves f) where
  bond : has_coupons f.form.security ≡ true → BondLimits (coupon_bond_of f)
  bond e =
      let c = r.days.coupons e in
      record { nominal = r.amounts.nominal; coupon = r.amounts.coupon; few = c.number.some.high; reach = c.last }

  -- the security by its number
  security-at : (number : ℕ) → f.form.security ≡ number → number ≤ 3 → SecurityLimits (security_of f)
  unfolding security_of
  security-at zero e h = rw e tt
  security-at (suc zero) e h = rw e record { nominal = r.amounts.nominal; reach = r.days.paid (rw e) }
  security-at (suc (suc zero)) e h = rw e (bond (rw e))
  security-at (suc (suc (suc zero))) e h =
      let i = r.amounts.indexed (rw e) in
      rw e record { bond = bond (rw e); some = i.0.low; index = i.0.high; issued = i.1.low; issue = i.1.high }
  security-at (suc (suc (suc (suc n)))) e h = absurd (omega arith)

  security : SecurityLimits (security_of f)
  security = security-at f.form.security refl r.form.securities

  -- a leg of payments: if there are any, the record has a security, and they stand on its curve, from its first payment day on
  abbrev Told : Leg → Type 0
  Told l = 0 < l.count → (has_security f.form.security ≡ true) × ((l.curve ≡ f.form.securitycurve) × (l.first ≡ f.days.first))

  payments-at : (number : ℕ) → f.form.security ≡ number → number ≤ 3 → Told (payments_of (security_of f))
  unfolding security_of
  payments-at zero e h = rw e (λ some. absurd (omega arith))
  payments-at (suc zero) e h = rw e (λ some. (refl, (refl, refl)))
  payments-at (suc (suc zero)) e h = rw e (λ some. (refl, (refl, refl)))
  payments-at (suc (suc (suc zero))) e h = rw e (λ some. (refl, (refl, refl)))
  payments-at (suc (suc (suc (suc n)))) e h = absurd (omega arith)

  pub payments-told : Told (payments_of (security_of f))
  payments-told = payments-at f.form.security refl r.form.securities

  bought : f.form.kind ≡ 1 → OutrightLimits (outright_of f)
  bought e = record {
    sides = record { low = r.form.sides.low; high = r.form.sides.high };
    valueday1 = r.days.bought (rw e);
    price = (r.amounts.bought (rw e)).1.1.1;
    accrued = r.amounts.accrued;
    security = security;
  }

  -- value day 1 is before value day 2, or unused and 0
  valueday1 : is_outright f.form.kind ≡ false → (settled : Bool) → has_settled f.form.kind f.form.phase ≡ settled → f.days.valueday1 ≤ last_day
  valueday1 o true e = omega (arith, r.amounts.settled e)
  valueday1 o false e = omega (arith, r.days.ahead o e, (r.days.lent o).1)

  lent : is_outright f.form.kind ≡ false → f.form.phase ≤ 3 → RepoLimits (repo_of f)
  lent o phases = record {
    sides = record { low = r.form.sides.low; high = r.form.sides.high };
    phases = phases;
    valueday1 = valueday1 o (has_settled f.form.kind f.form.phase) refl;
    valueday2 = (r.days.lent o).1;
    cash = r.amounts.cash;
    rate = (r.amounts.lent o).1;
    term = (r.days.lent o).0;
    security = security;
  }

  pub by_kind : (kind : ℕ) → f.form.kind ≡ kind → pick_trade kind (outright_of f) (repo_of f) ≡ trade_of f
  unfolding trade_of
  by_kind kind e = ap (λ (k : ℕ). pick_trade k (outright_of f) (repo_of f)) (sym e)

  limits-at : Kind f.form → TradeLimits (trade_of f)
  limits-at (outright kind phase) = subst TradeLimits (by_kind 1 kind) (bought kind)
  limits-at (pool kind phase) = subst TradeLimits (by_kind 2 kind) (lent (rw kind) phase.high)
  limits-at (specified kind phase) = subst TradeLimits (by_kind 3 kind) (lent (rw kind) (omega (arith, phase.high)))

  pub trade-limits : TradeLimits (trade_of f)
  trade-limits = limits-at r.form.kinds

-- where none of the rules 8 to 10 is broken
pub sound-record : (curves : Curves) (f : Fields) → breaks_form curves f.form ≡ false → breaks_days f.form f.days ≡ false
    → breaks_amounts f.form f.days f.amounts ≡ false → SoundRecord curves f
sound-record curves f form days amounts = record {
  form = formed curves f.form form;
  days = days-kept f.form f.days days;
  amounts = priced f.form f.days f.amounts amounts;
}
