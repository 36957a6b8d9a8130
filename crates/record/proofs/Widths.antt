-- Fields that break none of the rules 8, 9 and 10 keep the widths of their places, where the book's curves are so few that their ids do.
use mathlib.Core.Path.{◌≡◌, refl}
use mathlib.Core.Bool.{Bool, true, false}
use Prim.Native.Nat.{◌≤◌, ◌<◌}
use native.Mathlib.Omega.{arith}
use Rattle.decimal.specs.Product.{unit}
use Rattle.record.specs.declared.Curves.{Curves}
use Rattle.record.specs.declared.Fields.{Fields}
use Rattle.record.specs.Uses.{is_outright, has_settled, has_security, has_coupons, is_indexed}
use Rattle.layout.proofs.Row.{◌and◌}
use Rattle.ground.specs.Limits.{last_day}
use Rattle.record.specs.Bytes.{record_row}
use Rattle.record.specs.Rules.{breaks_form, breaks_days, breaks_amounts}
use Rattle.record.proofs.Facts.{Kind, outright, pool, specified, Formed, formed, DaysKept, days-kept, Priced, priced}
use Rattle.record.proofs.RoundTrip.{Narrow}

-- what holds where a test is passed and where it is not
either_way : {P : Type 0} (test : Bool) → (test ≡ true → P) → (test ≡ false → P) → P
either_way true holds fails = holds refl
either_way false holds fails = fails refl

module _ {curves : Curves} (f : Fields) (few : curves.count < 256) (r : Formed curves f.form) (d : DaysKept f.form f.days) (a : Priced f.form f.days f.amounts) where
  kinds : Kind f.form → (f.form.kind < 256) × (f.form.phase < 256)
  kinds (outright k p) = (omega arith, omega arith)
  kinds (pool k p) = (omega (arith, p.high), omega (arith, p.high))
  kinds (specified k p) = (omega (arith, p.high), omega (arith, p.high))

  -- value day 1 is before value day 2, or unused and 0
  ahead : is_outright f.form.kind ≡ false → f.days.valueday1 ≤ last_day
  ahead o =
      either_way (has_settled f.form.kind f.form.phase) (λ e. omega (arith, a.settled e)) (λ e. omega (arith, d.ahead o e, (d.lent o).1))

  -- in the order of `record_row`
  narrowed : Narrow f
  unfolding unit record_row
  narrowed =
      let o = is_outright f.form.kind in
      let paying = has_security f.form.security in
      let coupons = has_coupons f.form.security in
      let indexed = is_indexed f.form.security in
      (kinds r.kinds).0
      and omega (arith, r.sides.high)
      and (kinds r.kinds).1
      and either_way paying (λ e. omega (arith, (r.held e).high)) (λ e. omega (arith, r.bare e))
      and omega (arith, r.cash.high)
      and omega (arith, r.securities)
      and omega (arith, a.blank)
      and either_way o (λ e. omega (arith, d.bought e)) (λ e. omega (arith, ahead e))
      and either_way o (λ e. omega (arith, (a.bought e).0)) (λ e. omega (arith, (d.lent e).1))
      and either_way paying (λ e. omega (arith, d.paid e)) (λ e. omega (arith, (a.bare e).0))
      and either_way coupons (λ e. omega (arith, (d.coupons e).number.apart.high)) (λ e. omega (arith, (a.flat e).0))
      and either_way coupons (λ e. omega (arith, (d.coupons e).number.some.high)) (λ e. omega (arith, (a.flat e).1.0))
      and either_way o (λ e. omega (arith, (a.bought e).1.0)) (λ e. omega (arith, (d.lent e).0))
      and omega (arith, a.coupon)
      and omega (arith, a.nominal)
      and omega (arith, a.cash)
      and either_way o (λ e. omega (arith, (a.bought e).1.1.1)) (λ e. omega (arith, (a.lent e).1))
      and omega (arith, a.accrued)
      and either_way indexed (λ e. omega (arith, (a.indexed e).0.high)) (λ e. omega (arith, (a.plain e).0))
      and either_way indexed (λ e. omega (arith, (a.indexed e).1.high)) (λ e. omega (arith, (a.plain e).1))
      and tt

pub rules-narrow : (curves : Curves) (f : Fields) → curves.count < 256 → breaks_form curves f.form ≡ false → breaks_days f.form f.days ≡ false
    → breaks_amounts f.form f.days f.amounts ≡ false → Narrow f
rules-narrow curves f few form days amounts =
    narrowed f few (formed curves f.form form) (days-kept f.form f.days days) (priced f.form f.days f.amounts amounts)
