-- "Every amount the book can yield must fit its column": whole in its 22 columns, and what stands from the left leaves them free.
use Rattle.std.specs.Prelude.{◌≡◌, List, map, ℕ, ◌≤◌, ◌<◌, ℤ, pos, length}
use Rattle.record.specs.Bytes.{fields_of}
use Rattle.book.specs.Parts.{curve_count, trade_count, record_at}
use Rattle.margin.specs.declared.CurveMargin.{CurveMargin}
use Rattle.margin.specs.declared.CurrencyMargin.{CurrencyMargin}
use Rattle.margin.specs.Margins.{curve_margin, currency_margin}
use Rattle.exposure.specs.Exposures.{exposure_at, exposures}
use Rattle.text.specs.Text.{letters}
use Rattle.text.specs.Columns.{amount_text}
use Rattle.page.specs.Line.{trade_left}
use Rattle.page.specs.Page.{curve_left}

abbrev pub Whole : ℤ → Type 0
Whole z = length (amount_text z) ≤ 22

pub record CurveWhole (m : CurveMargin) : Type 0 where
  pub base : Whole m.base
  pub worstloss : Whole m.worstloss
  pub tolerance : Whole (pos m.tolerance)

pub record CurrencyWhole (m : CurrencyMargin) : Type 0 where
  pub initial : Whole m.initial
  pub variation : Whole m.variation
  pub total : Whole m.total

-- an accepted book
pub record EveryAmountFits (s : List ℕ) : Type 0 where
  pub curve : (k : ℕ) → 1 ≤ k → k ≤ curve_count s → CurveWhole (curve_margin (exposure_at s k))
  pub currency : (c : ℕ) → CurrencyWhole (currency_margin c (map curve_margin (exposures s)))
  pub trade : (i : ℕ) → i < trade_count s → Whole (pos (fields_of (record_at s i)).amounts.nominal)
  -- of 58 columns, and of 14
  pub left_trade : (i : ℕ) → i < trade_count s → length (trade_left i (fields_of (record_at s i))) ≤ 14
  pub left_curve : (k : ℕ) → 1 ≤ k → k ≤ curve_count s → length (curve_left k (curve_margin (exposure_at s k))) ≤ 9
  pub left_currency : (c : ℕ) → length (letters c) ≡ 3
