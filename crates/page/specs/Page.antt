-- The account statement on paper (document 02, wish 6): the lines of curves and currencies, and the page.
use Rattle.std.specs.Prelude.{ℕ, ◌+◌, ◌*◌, Bool, cond, List, [], ◌∷◌, ◌++◌, pos, take}
use Rattle.margin.specs.declared.CurveMargin.{CurveMargin}
use Rattle.margin.specs.declared.CurrencyMargin.{CurrencyMargin}
use Rattle.margin.specs.declared.Margin.{Margin}
use Rattle.margin.specs.Margins.{has_currency}
use Rattle.text.specs.Text.{decimal_of, letters, figure, currency_named, lines_of}
use Rattle.page.specs.Line.{page_line, title_line, record_line}

-- "a curve's id, scenario and currency letters"
unfoldable pub curve_left : ℕ → CurveMargin → List ℕ
curve_left id m = decimal_of id ++ figure " " m.scenario ++ currency_named " " m.currency

-- "in the report's order, tolerance among them"
unfoldable pub curve_line : ℕ → CurveMargin → List ℕ
curve_line id m = page_line (curve_left id m) (m.base ∷ m.worstloss ∷ pos m.tolerance ∷ [])

-- "a currency's letters", and its figures
unfoldable pub currency_line : ℕ → CurrencyMargin → List ℕ
currency_line c m = page_line (letters c) (m.initial ∷ m.variation ∷ m.total ∷ [])

-- "for each currency that a curve has"
unfoldable pub currency_part : Bool → ℕ → CurrencyMargin → List ℕ
currency_part has c m = cond has (currency_line c m) []

abbrev pub currency_part_of : List CurveMargin → ℕ → CurrencyMargin → List ℕ
currency_part_of curves c m = currency_part (has_currency c curves) c m

-- the page of a book with so many curves, this margin and these records: "a title line with the account; a line for each trade ..; a line for
-- each curve, then for each currency that a curve has"
unfoldable pub page : ℕ → Margin → List (List ℕ) → List ℕ
page n m records =
    title_line m.account
    ++ lines_of record_line 0 records
    ++ lines_of curve_line 1 (take n m.curves)
    ++ lines_of (currency_part_of (take n m.curves)) 1 m.currencies

-- how many currencies a curve has
abbrev pub one_if : Bool → ℕ
one_if has = cond has 1 0

abbrev pub currency_count : List CurveMargin → ℕ
currency_count curves = one_if (has_currency 1 curves) + one_if (has_currency 2 curves) + one_if (has_currency 3 curves)

-- every line is 81 bytes
abbrev pub page_length : ℕ → ℕ → List CurveMargin → ℕ
page_length trades n curves = 81 * (1 + trades + n + currency_count (take n curves))
