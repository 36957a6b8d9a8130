-- What the list program prints (document 01, "Checked figures").
use Rattle.std.specs.Prelude.{ℕ, Bool, cond, List, [], ◌++◌, take}
use Rattle.margin.specs.declared.CurveMargin.{CurveMargin}
use Rattle.margin.specs.declared.CurrencyMargin.{CurrencyMargin}
use Rattle.margin.specs.declared.Margin.{Margin}
use Rattle.margin.specs.Margins.{has_currency}
use Rattle.text.specs.Text.{ascii, figure, signed_figure, currency_named, lines_of}

-- " base 10000 loss 30000 scenario 2 tolerance 1"
unfoldable pub curve_figures : CurveMargin → List ℕ
curve_figures m =
    signed_figure " base " m.base ++ signed_figure " loss " m.worstloss ++ figure " scenario " m.scenario ++ figure " tolerance " m.tolerance

-- "curve 1 TRY" and the figures
unfoldable pub curve_listed : ℕ → CurveMargin → List ℕ
curve_listed k m = figure "curve " k ++ currency_named " " m.currency ++ curve_figures m ++ ascii "\n"

-- " initial 30000 variation 10000 total -20000"
unfoldable pub currency_figures : CurrencyMargin → List ℕ
currency_figures m =
    signed_figure " initial " m.initial ++ signed_figure " variation " m.variation ++ signed_figure " total " m.total

-- "currency TRY" and the figures
unfoldable pub currency_listed : ℕ → CurrencyMargin → List ℕ
currency_listed c m = currency_named "currency " c ++ currency_figures m ++ ascii "\n"

-- "a line for each currency that a curve has"
unfoldable pub currency_listed_if : Bool → ℕ → CurrencyMargin → List ℕ
currency_listed_if has c m = cond has (currency_listed c m) []

abbrev pub currency_listed_in : List CurveMargin → ℕ → CurrencyMargin → List ℕ
currency_listed_in curves c m = currency_listed_if (has_currency c curves) c m

-- an accepted book of so many curves: "account 7", "a curve line each", the currencies "in the report's order"
unfoldable pub listing : ℕ → Margin → List ℕ
listing n m =
    figure "account " m.account ++ ascii "\n" ++ lines_of curve_listed 1 (take n m.curves) ++ lines_of (currency_listed_in (take n m.curves)) 1 m.currencies

-- a refused one: "one line only, "refused", number and block, a blank apart"
unfoldable pub refused_line : ℕ → ℕ → List ℕ
refused_line number block = figure "refused " number ++ figure " " block ++ ascii "\n"
