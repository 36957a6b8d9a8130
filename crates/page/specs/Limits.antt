-- What a page counts on: an accepted book keeps to it.
use Rattle.std.specs.Prelude.{List, [], ◌≡◌, ℕ, ◌^◌, ◌≤◌, ◌<◌, length, get_or}
use Rattle.record.specs.Bytes.{fields_of}
use Rattle.margin.specs.declared.CurveMargin.{CurveMargin}
use Rattle.margin.specs.declared.CurrencyMargin.{CurrencyMargin}
use Rattle.margin.specs.declared.Margin.{Margin}
use Rattle.margin.specs.Margins.{no_curve, no_currency}
use Rattle.page.specs.LineLimits.{AmountFits, TradeLineLimits}

pub record CurveLineLimits (m : CurveMargin) : Type 0 where
  pub base : AmountFits m.base
  pub worstloss : AmountFits m.worstloss
  pub scenario : m.scenario < 343
  pub tolerance : m.tolerance < 2 ^ 63

pub record CurrencyLineLimits (m : CurrencyMargin) : Type 0 where
  pub initial : AmountFits m.initial
  pub variation : AmountFits m.variation
  pub total : AmountFits m.total

-- the first n curves, of at most eight
pub record CurveLinesLimits (n : ℕ) (curves : List CurveMargin) : Type 0 where
  pub most : n ≤ 8
  pub each : (i : ℕ) → i < n → CurveLineLimits (get_or curves i no_curve)

-- the three currencies
pub record CurrencyLinesLimits (currencies : List CurrencyMargin) : Type 0 where
  pub each : (i : ℕ) → i < 3 → CurrencyLineLimits (get_or currencies i no_currency)

-- all that a page shows
pub record PageLimits (n : ℕ) (m : Margin) (records : List (List ℕ)) : Type 0 where
  pub places : length m.curves ≡ 8
  pub curves : CurveLinesLimits n m.curves
  pub three : length m.currencies ≡ 3
  pub currencies : CurrencyLinesLimits m.currencies
  pub trades : (i : ℕ) → i < length records → TradeLineLimits (fields_of (get_or records i []))
