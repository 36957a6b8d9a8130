-- "Every amount the book can yield must fit its column, shown for the largest.": of an accepted book every amount fits its 22 columns, and what stands
-- from the left leaves them free.
use mathlib.Core.Path.{◌≡◌, refl, ap}
use mathlib.Core.List.{List}
use Prim.Native.Nat.{ℕ, ◌*◌, ◌≤◌, ◌<◌}
use native.Mathlib.Omega.{arith}
use lib.IntN.{pos}
use lib.ListN.{length, length-append}
use Rattle.std.specs.Prelude.{Ok}
use Rattle.decimal.specs.Product.{unit}
use Rattle.ladder.specs.Totals.{most_flows}
use Rattle.record.specs.declared.Fields.{Fields}
use Rattle.book.specs.Verdict.{blocks_verdict}
use Rattle.book.proofs.Accepted.{sound, trade-count-most}
use Rattle.margin.specs.declared.CurveMargin.{CurveMargin}
use Rattle.margin.specs.declared.CurrencyMargin.{CurrencyMargin}
use Rattle.report.proofs.Figures.{CurveSizes, CurrencySizes, curve-sizes, currency-sizes}
use Rattle.text.specs.Text.{ascii, digits_within, decimal_of}
use Rattle.text.specs.Columns.{money_text}
use Rattle.text.proofs.Digits.{length-below, length-letters}
use Rattle.text.proofs.Amounts.{length-largest}
use Rattle.page.specs.Line.{line_day, trade_left}
use Rattle.page.specs.LineLimits.{TradeLineLimits}
use Rattle.page.proofs.LineLengths.{length-kind, length-side}
use Rattle.page.specs.Page.{curve_left}
use Rattle.page.specs.Limits.{CurveLineLimits}
use Rattle.page.proofs.Lengths.{length-id, length-scenario}
use Rattle.statement.specs.Fits.{Whole, CurveWhole, CurrencyWhole, EveryAmountFits}
use Rattle.statement.proofs.Limits.{record-limits, curve-limits}

-- ---- the largest amounts that an accepted book can yield, without a minus

pub largest-base : money_text (most_flows * unit) ≡ ascii "1400000000000000.00"
unfolding unit money_text decimal_of digits_within ascii
largest-base = refl

pub largest-loss : money_text (2 * (most_flows * unit)) ≡ ascii "2800000000000000.00"
unfolding unit money_text decimal_of digits_within ascii
largest-loss = refl

pub largest-tolerance : money_text (most_flows * 1000) ≡ ascii "1400000.00"
unfolding money_text decimal_of digits_within ascii
largest-tolerance = refl

pub largest-initial : money_text (16 * (most_flows * unit)) ≡ ascii "22400000000000000.00"
unfolding unit money_text decimal_of digits_within ascii
largest-initial = refl

pub largest-variation : money_text (8 * (most_flows * unit)) ≡ ascii "11200000000000000.00"
unfolding unit money_text decimal_of digits_within ascii
largest-variation = refl

pub largest-total : money_text (24 * (most_flows * unit)) ≡ ascii "33600000000000000.00"
unfolding unit money_text decimal_of digits_within ascii
largest-total = refl

pub largest-nominal : money_text unit ≡ ascii "10000000000.00"
unfolding unit money_text decimal_of digits_within ascii
largest-nominal = refl

-- ---- each in its column

curve-fits : (m : CurveMargin) → CurveSizes m → CurveWhole m
unfolding ascii
curve-fits m h =
    record {
      base = omega (arith, length-largest m.base (most_flows * unit) h.base, ap length largest-base);
      worstloss = omega (arith, length-largest m.worstloss (2 * (most_flows * unit)) h.worstloss, ap length largest-loss);
      tolerance = omega (arith, length-largest (pos m.tolerance) (most_flows * 1000) h.tolerance, ap length largest-tolerance);
    }

currency-fits : (m : CurrencyMargin) → CurrencySizes m → CurrencyWhole m
unfolding ascii
currency-fits m h =
    record {
      initial = omega (arith, length-largest m.initial (16 * (most_flows * unit)) h.initial, ap length largest-initial);
      variation = omega (arith, length-largest m.variation (8 * (most_flows * unit)) h.variation, ap length largest-variation);
      total = omega (arith, length-largest m.total (24 * (most_flows * unit)) h.total, ap length largest-total);
    }

nominal-fits : (n : ℕ) → n ≤ unit → Whole (pos n)
unfolding ascii
nominal-fits n h = omega (arith, length-largest (pos n) unit h, ap length largest-nominal)

-- ---- what stands from the left

-- "1133 3 2 10950" is the longest
trade-left : (position : ℕ) (f : Fields) → position < 1134 → TradeLineLimits f → length (trade_left position f) ≤ 14
unfolding trade_left ascii
trade-left position f few h =
    simp length-append
    (omega (
      arith,
      length-below 3 position (omega arith),
      length-kind position f h,
      length-side position f h,
      length-below 4 (line_day f) (omega (arith, h.day)),
    ))

-- "8 342 TRY" is
curve-left : (id : ℕ) (m : CurveMargin) → id ≤ 8 → CurveLineLimits m → length (curve_left id m) ≤ 9
unfolding curve_left ascii
curve-left id m few h =
    simp length-append (omega (arith, length-id id m few h, length-scenario id m few h, length-letters m.currency))

-- ---- an accepted book

pub every-amount-fits : (s : List ℕ) (used : ℕ) → blocks_verdict s used ≡ Ok tt → EveryAmountFits s
every-amount-fits s used ok =
    let b = sound s used ok in
    record {
      curve = λ k l m. curve-fits _ (curve-sizes s used b k l m);
      currency = λ c. currency-fits _ (currency-sizes s used b c);
      trade = λ i l. nominal-fits _ (record-limits s used b i l).nominal;
      left_trade = λ i l. trade-left i _ (omega (arith, trade-count-most s used b)) (record-limits s used b i l);
      left_curve = λ k l m. curve-left k _ (omega (arith, b.most)) (curve-limits (curve-sizes s used b k l m));
      left_currency = length-letters;
    }
