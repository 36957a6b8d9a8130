-- The lines of curves and currencies are 81 bytes too, and so the page is 81 for each of its lines.
use mathlib.Core.Path.{◌≡◌, refl}
use mathlib.Core.Bool.{Bool, true, false}
use mathlib.Core.List.{List, [], ◌∷◌}
use Prim.Native.Nat.{ℕ, ◌+◌, ◌*◌, ◌≤◌}
use native.Mathlib.Omega.{arith}
use lib.ListN.{length, get_or, take, length-append}
use lib.Seq.{length-take-le, get_or-take}
use Rattle.margin.specs.declared.CurveMargin.{CurveMargin}
use Rattle.margin.specs.declared.CurrencyMargin.{CurrencyMargin}
use Rattle.margin.specs.declared.Margin.{Margin}
use Rattle.margin.specs.Margins.{no_curve, has_currency}
use Rattle.text.specs.Text.{ascii, decimal_of, letters, lines_of}
use Rattle.text.proofs.Digits.{length-below, length-letters}
use Rattle.text.proofs.Lines.{length-lines}
use Rattle.page.specs.Line.{title_line, record_line}
use Rattle.page.proofs.LineLengths.{length-line, length-title-line, length-trade-lines}
use Rattle.page.specs.Page.{curve_left, curve_line, currency_line, currency_part, currency_part_of, page, one_if, currency_count, page_length}
use Rattle.page.specs.Limits.{CurveLineLimits, CurrencyLineLimits, CurveLinesLimits, CurrencyLinesLimits, PageLimits}

-- ---- a line

module _ (id : ℕ) (m : CurveMargin) (few : id ≤ 8) (h : CurveLineLimits m) where
  pub length-id : length (decimal_of id) ≤ 1
  length-id = length-below 0 id (omega arith)

  pub length-scenario : length (decimal_of m.scenario) ≤ 3
  length-scenario = length-below 2 m.scenario (omega (arith, h.scenario))

  pub curve-left-fits : length (curve_left id m) ≤ 14
  unfolding curve_left ascii
  curve-left-fits = simp length-append (omega (arith, length-id, length-scenario, length-letters m.currency))

  pub length-curve-line : length (curve_line id m) ≡ 81
  unfolding curve_line
  length-curve-line = length-line (curve_left id m) _ (h.base, (h.worstloss, (omega (arith, h.tolerance), tt))) (omega (arith, curve-left-fits))

module _ (c : ℕ) (m : CurrencyMargin) (h : CurrencyLineLimits m) where
  pub length-currency-line : length (currency_line c m) ≡ 81
  unfolding currency_line
  length-currency-line = length-line (letters c) _ (h.initial, (h.variation, (h.total, tt))) (omega (arith, length-letters c))

  pub length_part : (has : Bool) → length (currency_part has c m) ≡ 81 * one_if has
  unfolding currency_part
  length_part true = length-currency-line
  length_part false = refl

-- ---- the page

pub length-curve-lines : (n : ℕ) (curves : List CurveMargin) → CurveLinesLimits n curves → n ≤ length curves → length (lines_of curve_line 1 (take n curves)) ≡ 81 * n
length-curve-lines n curves h l =
    let k = length-take-le n curves l in
    let each = length-lines curve_line 81 (take n curves) no_curve 1
    (λ i m. let e = get_or-take n curves i no_curve (omega (arith, k, m)) in rw e (length-curve-line (1 + i) (get_or curves i no_curve) (omega (arith, h.most, k, m)) (h.each i (omega (arith, k, m))))) in
    omega (arith, k, each)

length-parts : (curves : List CurveMargin) (a b c : CurrencyMargin) → CurrencyLineLimits a → CurrencyLineLimits b → CurrencyLineLimits c
    → length (lines_of (currency_part_of curves) 1 (a ∷ b ∷ c ∷ [])) ≡ 81 * currency_count curves
unfolding lines_of
length-parts curves a b c ha hb hc =
    simp length-append
    (omega (arith, length_part 1 a ha (has_currency 1 curves), length_part 2 b hb (has_currency 2 curves), length_part 3 c hc (has_currency 3 curves)))

pub length-currency-lines : (curves : List CurveMargin) (l : List CurrencyMargin) → length l ≡ 3 → CurrencyLinesLimits l
    → length (lines_of (currency_part_of curves) 1 l) ≡ 81 * currency_count curves
length-currency-lines curves [] e h = absurd (omega arith)
length-currency-lines curves (a ∷ []) e h = absurd (omega arith)
length-currency-lines curves (a ∷ b ∷ []) e h = absurd (omega arith)
length-currency-lines curves (a ∷ b ∷ c ∷ []) e h = length-parts curves a b c (h.each 0 (omega arith)) (h.each 1 (omega arith)) (h.each 2 (omega arith))
length-currency-lines curves (a ∷ b ∷ c ∷ d ∷ l) e h = absurd (omega arith)

-- part by part
pub length-parts-of : (n : ℕ) (m : Margin) (records : List (List ℕ))
    → length (page n m records)
    ≡ length (title_line m.account) + length (lines_of record_line 0 records) + length (lines_of curve_line 1 (take n m.curves)) + length (lines_of (currency_part_of (take n m.curves)) 1 m.currencies)
unfolding page
length-parts-of n m records = simp length-append refl

-- "81 × (1 + trades + curves + currencies)"
pub length-page : (n : ℕ) (m : Margin) (records : List (List ℕ)) → PageLimits n m records → length (page n m records) ≡ page_length (length records) n m.curves
length-page n m records h =
    omega (
      arith,
      length-parts-of n m records,
      length-title-line m.account,
      length-trade-lines records h.trades,
      length-curve-lines n m.curves h.curves (omega (arith, h.places, h.curves.most)),
      length-currency-lines (take n m.curves) m.currencies h.three h.currencies,
    )
