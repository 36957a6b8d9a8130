-- The figures of a curve, of a currency and of a whole book (document 01, "Margin").
use Rattle.std.specs.Prelude.{Bool, false, cond, ◌||◌, List, [], ◌∷◌, ◌++◌, map, ℕ, ◌-◌, ◌*◌, ◌≤◌, ◌<◌, eqb, ℤ, pos, nat_abs, ◌+ℤ◌, ◌-ℤ◌, length, get_or, replicate}
use Rattle.decimal.specs.Product.{unit}
use Rattle.discount.specs.Flows.{flow_value}
use Rattle.ladder.specs.Exposure.{Exposure}
use Rattle.ladder.specs.Values.{base_of, tolerance_of}
use Rattle.margin.specs.Losses.{loss_at, worst_at}
use Rattle.ladder.specs.Totals.{most_flows}
use Rattle.margin.specs.declared.margins.Sums.{Sums}
use Rattle.margin.specs.declared.CurveMargin.{CurveMargin}
use Rattle.margin.specs.declared.CurrencyMargin.{CurrencyMargin}
use Rattle.margin.specs.declared.Margin.{Margin}

-- the figures that a curve shows where scenario s is shown
unfoldable pub figures_at : Exposure → ℕ → CurveMargin
figures_at e s =
    record {
      base = base_of flow_value e;
      worstloss = loss_at flow_value e s;
      scenario = s;
      currency = e.currency;
      tolerance = tolerance_of e;
    }

-- "worst loss (the first scenario with the largest)"
unfoldable pub curve_margin : Exposure → CurveMargin
curve_margin e = figures_at e (worst_at flow_value e)

-- the sum of a figure over the curves of a currency
unfoldable pub sum_in : ℕ → (CurveMargin → ℤ) → List CurveMargin → ℤ
sum_in currency figure [] = pos 0
sum_in currency figure (m ∷ ms) =
    cond (eqb m.currency currency) (figure m +ℤ sum_in currency figure ms) (sum_in currency figure ms)

-- "initial is the sum of its curves' worst losses, variation the sum of base values, total is variation minus initial"
unfoldable pub currency_margin : ℕ → List CurveMargin → CurrencyMargin
currency_margin currency ms =
    let initial : ℤ = sum_in currency (λ m. m.worstloss) ms in
    let variation : ℤ = sum_in currency (λ m. m.base) ms in
    record { initial = initial; variation = variation; total = variation -ℤ initial }

-- whether a curve has the currency
unfoldable pub has_currency : ℕ → List CurveMargin → Bool
has_currency currency [] = false
has_currency currency (m ∷ ms) = eqb m.currency currency || has_currency currency ms

-- the figures of a place with no curve, and of a currency that no curve has
abbrev pub no_curve : CurveMargin
no_curve = record { base = pos 0; worstloss = pos 0; scenario = 0; currency = 0; tolerance = 0 }

abbrev pub no_currency : CurrencyMargin
no_currency = record { initial = pos 0; variation = pos 0; total = pos 0 }

-- an account's figures, from those of its curves in order: eight places for curves, then TRY, USD, EUR
unfoldable pub assembled : ℕ → List CurveMargin → Margin
assembled account ms =
    record {
      account = account;
      curves = ms ++ replicate (8 - length ms) no_curve;
      currencies = currency_margin 1 ms ∷ currency_margin 2 ms ∷ currency_margin 3 ms ∷ [];
    }

-- of an account with so much on its curves
abbrev pub margin_of : ℕ → List Exposure → Margin
margin_of account es = assembled account (map curve_margin es)

-- a curve's figures of at most so many flows: what keeps the sums over eight curves in 64 bits
pub record MarginLimits (m : CurveMargin) : Type 0 where
  pub base : nat_abs m.base ≤ most_flows * unit
  pub worstloss : nat_abs m.worstloss ≤ 2 * (most_flows * unit)

-- what currency_margin adds up, with one curve more
unfoldable pub plus_curve : ℕ → Sums → CurveMargin → Sums
plus_curve currency t m =
    cond (eqb m.currency currency) (record { initial = t.initial +ℤ m.worstloss; variation = t.variation +ℤ m.base }) t

-- the sums of at most n curves
pub record SumsLimits (n : ℕ) (t : Sums) : Type 0 where
  pub initial : nat_abs t.initial ≤ n * (2 * (most_flows * unit))
  pub variation : nat_abs t.variation ≤ n * (most_flows * unit)

-- the first count of eight places, each in its limits
pub record PlacesLimits (ms : List CurveMargin) (count : ℕ) : Type 0 where
  pub most : count ≤ 8
  pub each : (i : ℕ) → i < count → MarginLimits (get_or ms i no_curve)
