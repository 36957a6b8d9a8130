-- The rules 8 to 11 of document 01 on the fields of one record: each is true where it is broken.
use Rattle.std.specs.Prelude.{ℕ, ◌-◌, Bool, ◌&&◌, ◌||◌, not, cond, eqb, leb, ltb, get_or}
use Rattle.ground.specs.Limits.{last_day}
use Rattle.decimal.specs.Product.{unit}
use Rattle.record.specs.declared.Form.{Form}
use Rattle.record.specs.declared.Days.{Days}
use Rattle.record.specs.declared.Amounts.{Amounts}
use Rattle.record.specs.declared.Curves.{Curves}
use Rattle.record.specs.Uses.{last_payment_day, in_limits, used_in_limits, asked, is_outright, is_pool, is_specified, has_settled, has_security, has_coupons, is_indexed}

-- ---- 8. A record's kind, side, phase, security or curve id is none of those allowed together.

-- "phase (0 outright, 1 to 3 pool, 1 to 2 specified)"
abbrev pub phase_fits : ℕ → ℕ → Bool
phase_fits kind phase =
    is_outright kind && eqb phase 0
    || is_pool kind && in_limits 1 phase 3
    || is_specified kind && in_limits 1 phase 2

-- "Pool phase 1 has security 0; every other trade has 1, 2 or 3."
abbrev pub security_fits : Form → Bool
security_fits f = used_in_limits (not (is_pool f.kind && eqb f.phase 1)) 1 f.security 3

-- both curves are the book's; "security 0 has no security curve"
abbrev pub curves_fit : ℕ → Form → Bool
curves_fit count f = in_limits 1 f.cashcurve count && used_in_limits (has_security f.security) 1 f.securitycurve count

unfoldable pub breaks_form : Curves → Form → Bool
breaks_form curves f = not (
    phase_fits f.kind f.phase
    && in_limits 1 f.side 2
    && security_fits f
    && curves_fit curves.count f)

-- ---- 9. A day, period, payment count or term that the record uses breaks its rule.

-- "All days, payments' too, are at most 10,950."
abbrev pub in_reach : ℕ → Bool
in_reach day = leb day last_day

-- "In pool phases 1, 2 and specified phase 1, value day 1 is before value day 2 and the term is their difference."
abbrev pub legs_ahead : Days → Bool
legs_ahead d = in_limits 1 d.term 730 && ltb d.valueday1 d.valueday2 && eqb (d.valueday2 - d.valueday1) d.term && in_reach d.valueday2

-- "In pool phase 3 and specified phase 2 the first leg has settled: value day 1 is unused, value day 2 is at most the term."
abbrev pub second_leg_ahead : Days → Bool
second_leg_ahead d = in_limits 1 d.term 730 && leb d.valueday2 d.term

abbrev pub value_days_fit : Form → Days → Bool
value_days_fit f d = cond (is_outright f.kind) (in_reach d.valueday1) (cond (has_settled f.kind f.phase) (second_leg_ahead d) (legs_ahead d))

-- document 02: "Rule 9 asks only that the first payment come after value day 1, or after day 0 where value day 1 is unused."
abbrev pub first_payment_fits : Form → Days → Bool
first_payment_fits f d = cond (has_settled f.kind f.phase) (ltb 0 d.first) (ltb d.valueday1 d.first) && in_reach d.first

-- "period (1 to 366)", "payments (1 to 120)"
abbrev pub counts_fit : ℕ → ℕ → Bool
counts_fit period payments = in_limits 1 period 366 && in_limits 1 payments 120

-- and the last payment's day
abbrev pub coupon_days_fit : ℕ → ℕ → ℕ → Bool
coupon_days_fit first period payments = counts_fit period payments && in_reach (last_payment_day first period payments)

unfoldable pub breaks_days : Form → Days → Bool
breaks_days f d = not (
    value_days_fit f d
    && asked (has_security f.security) (first_payment_fits f d)
    && asked (has_coupons f.security) (coupon_days_fit d.first d.period d.payments))

-- ---- 10. An amount, price, rate, coupon, accrued or index is wrong, or a field due to be 0 (days, and bytes 6-7, included) is not.

-- "outright has no value day 2, term"; "a single payment has no period, payments"; "security 0 has no .. payment day .. either"; and a
-- settled first leg leaves value day 1 unused
abbrev pub unused_days_fit : Form → Days → Bool
unused_days_fit f d =
    asked (is_outright f.kind) (eqb d.valueday2 0 && eqb d.term 0)
    && asked (has_settled f.kind f.phase) (eqb d.valueday1 0)
    && asked (not (has_security f.security)) (eqb d.first 0)
    && asked (not (has_coupons f.security)) (eqb d.period 0 && eqb d.payments 0)

-- "nominal", "repo cash (each 1 to 10^12)"
abbrev pub principals_fit : Form → Amounts → Bool
principals_fit f a =
    used_in_limits (has_security f.security) 1 a.nominal unit
    && used_in_limits (not (is_outright f.kind)) 1 a.cash unit

-- "clean price (1 to 4,000,000) or repo rate (0 to 1,000,000)"
abbrev pub price_fits : Form → Amounts → Bool
price_fits f a = cond (is_outright f.kind) (in_limits 1 a.price 4000000) (leb a.price 1000000)

-- "accrued (0 to 1,000,000)", which a repo has not; "coupon per period (0 to 1,000,000)"
abbrev pub coupons_fit : Form → Amounts → Bool
coupons_fit f a =
    used_in_limits (is_outright f.kind) 0 a.accrued 1000000
    && used_in_limits (has_coupons f.security) 0 a.coupon 1000000

-- "index at settlement, 52-55 at issue (1 to 10,000,000 each)"; "only indexed coupons have indices"
abbrev pub indices_fit : Form → Amounts → Bool
indices_fit f a =
    used_in_limits (is_indexed f.security) 1 a.index 10000000
    && used_in_limits (is_indexed f.security) 1 a.issue 10000000

unfoldable pub breaks_amounts : Form → Days → Amounts → Bool
breaks_amounts f d a = not (
    eqb f.blank 0
    && unused_days_fit f d
    && principals_fit f a
    && price_fits f a
    && coupons_fit f a
    && indices_fit f a)

-- ---- 11. The two curves, where both are used, differ in currency.

-- the currency of a curve id, which stands at id - 1; 0 for an id that no book has
abbrev pub currency_of_id : Curves → ℕ → ℕ
currency_of_id curves id = cond (in_limits 1 id 8) (get_or curves.currency (id - 1) 0) 0

unfoldable pub breaks_currency : Curves → Form → Bool
breaks_currency curves f =
    has_security f.security && not (eqb (currency_of_id curves f.securitycurve) (currency_of_id curves f.cashcurve))
