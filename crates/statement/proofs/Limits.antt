-- An accepted book keeps to what its page counts on.
use mathlib.Core.Path.{◌≡◌, refl, ap, ◌∙◌}
use mathlib.Core.Bool.{Bool, true, false, cond}
use mathlib.Core.List.{List}
use Prim.Native.Nat.{ℕ, ◌+◌, ◌-◌, ◌*◌, ◌≤◌, ◌<◌}
use native.Mathlib.Omega.{arith}
use lib.ListN.{length}
use Rattle.ground.specs.Limits.{last_day}
use Rattle.decimal.specs.Product.{unit}
use Rattle.record.specs.declared.Form.{Form}
use Rattle.record.specs.declared.Fields.{Fields}
use Rattle.record.specs.declared.Curves.{Curves}
use Rattle.record.specs.Bytes.{fields_of}
use Rattle.record.specs.Uses.{is_outright, has_security, has_coupons, last_payment_day}
use Rattle.record.proofs.Facts.{Kind, formed, days-kept, priced}
use Rattle.flows.proofs.Bounded.{AcceptedRecord}
use Rattle.book.specs.Parts.{curve_count, trade_count, record_at, records}
use Rattle.book.proofs.Accepted.{Sound}
use Rattle.book.proofs.Places.{length-records, record_of}
use Rattle.margin.specs.declared.CurveMargin.{CurveMargin}
use Rattle.margin.specs.declared.CurrencyMargin.{CurrencyMargin}
use Rattle.margin.specs.Margins.{no_currency}
use Rattle.exposure.proofs.Collected.{accepted-at}
use Rattle.report.specs.Entry.{margin_in}
use Rattle.report.proofs.Figures.{CurveSizes, CurrencySizes, curve-sizes, currency-sizes, places, place_of, currency-at}
use Rattle.page.specs.Line.{line_day}
use Rattle.page.specs.LineLimits.{TradeLineLimits}
use Rattle.page.specs.Page.{page_length}
use Rattle.page.specs.Limits.{CurveLineLimits, CurrencyLineLimits, PageLimits}
use Rattle.page.proofs.Lengths.{length-page}
use Rattle.statement.specs.Entry.{page_of}

-- ---- a trade

kind-most : (f : Form) → Kind f → f.kind ≤ 3
kind-most f (Kind.outright e p) = omega (arith, e)
kind-most f (Kind.pool e p) = omega (arith, e)
kind-most f (Kind.specified e p) = omega (arith, e)

module _ (curves : Curves) (f : Fields) (h : AcceptedRecord curves f) where
  first-most : f.days.first ≤ last_day
  first-most = go (has_security f.form.security) refl
    where
      go : (t : Bool) → has_security f.form.security ≡ t → f.days.first ≤ last_day
      go true e = (days-kept f.form f.days h.days).paid e
      go false e = omega (arith, ((priced f.form f.days f.amounts h.amounts).bare e).0)

  -- a single payment has neither period nor count
  counts-most : (f.days.period ≤ 366) × (f.days.payments ≤ 120) × (last_payment_day f.days.first f.days.period f.days.payments ≤ last_day)
  counts-most = go (has_coupons f.form.security) refl
    where
      go : (t : Bool) → has_coupons f.form.security ≡ t
          → (f.days.period ≤ 366) × (f.days.payments ≤ 120) × (last_payment_day f.days.first f.days.period f.days.payments ≤ last_day)
      go true e = let c = (days-kept f.form f.days h.days).coupons e in (c.number.apart.high, c.number.some.high, c.last)
      go false e =
          let z = (priced f.form f.days f.amounts h.amounts).flat e in
          let none : (f.days.payments - 1) * f.days.period ≡ 0 = rw z.0 (omega arith) in
          (omega (arith, z.0), omega (arith, z.1.0), omega (arith, none, first-most))

  second-most : f.days.valueday2 ≤ last_day
  second-most = go (is_outright f.form.kind) refl
    where
      go : (t : Bool) → is_outright f.form.kind ≡ t → f.days.valueday2 ≤ last_day
      go true e = omega (arith, ((priced f.form f.days f.amounts h.amounts).bought e).0)
      go false e = ((days-kept f.form f.days h.days).lent e).1

  day-most : line_day f ≤ last_day
  unfolding line_day
  day-most = go (has_security f.form.security) counts-most second-most
    where
      go : (t : Bool) → (f.days.period ≤ 366) × (f.days.payments ≤ 120) × (last_payment_day f.days.first f.days.period f.days.payments ≤ last_day) → f.days.valueday2 ≤ last_day
          → cond t (last_payment_day f.days.first f.days.period f.days.payments) f.days.valueday2 ≤ last_day
      go true p q = p.2
      go false p q = q

  pub trade-limits : TradeLineLimits f
  trade-limits =
      let form = formed curves f.form h.form in
      record {
        kind = kind-most f.form form.kinds;
        side = form.sides.high;
        first = first-most;
        period = counts-most.0;
        payments = counts-most.1;
        day = day-most;
        nominal = (priced f.form f.days f.amounts h.amounts).nominal;
      }

-- ---- figures

pub curve-limits : {m : CurveMargin} → CurveSizes m → CurveLineLimits m
unfolding unit
curve-limits h =
    record { base = omega (arith, h.base); worstloss = omega (arith, h.worstloss); scenario = h.scenario; tolerance = omega (arith, h.tolerance) }

pub currency-limits : {m : CurrencyMargin} → CurrencySizes m → CurrencyLineLimits m
unfolding unit
currency-limits h = record { initial = omega (arith, h.initial); variation = omega (arith, h.variation); total = omega (arith, h.total) }

-- ---- all of a book

module _ (s : List ℕ) (used : ℕ) (b : Sound s used) where
  pub record-limits : (i : ℕ) → i < trade_count s → TradeLineLimits (fields_of (record_at s i))
  record-limits i l = trade-limits _ (fields_of (record_at s i)) (accepted-at s used b i l)

  pub page-limits : PageLimits (curve_count s) (margin_in s) (records s)
  page-limits =
      record {
        places = (places s used b).curves;
        curves =
            record {
              most = b.most;
              each = λ i l.
                  let e : 1 + i - 1 ≡ i = omega arith in
                  rw (← e) (rw (place_of s used b (1 + i) (omega arith) (omega arith)) (curve-limits (curve-sizes s used b (1 + i) (omega arith) (omega arith))));
            };
        three = (places s used b).currencies;
        currencies =
            record {
              each = λ i l.
                  let e : 1 + i - 1 ≡ i = omega arith in
                  rw (← e) (rw (currency-at s used b (1 + i) (omega arith) (omega arith) no_currency) (currency-limits (currency-sizes s used b (1 + i))));
            };
        trades = λ i l.
            let k : i < trade_count s = omega (arith, length-records s, l) in
            rw (record_of s i k) (record-limits i k);
      }

  -- "81 × (1 + trades + curves + currencies)"
  pub length-page_of : length (page_of s) ≡ page_length (trade_count s) (curve_count s) (margin_in s).curves
  unfolding page_of
  length-page_of =
      length-page (curve_count s) (margin_in s) (records s) page-limits ∙ ap (λ (n : ℕ). page_length n (curve_count s) (margin_in s).curves) (length-records s)
