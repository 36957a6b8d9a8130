-- What a report shows: the figures read off its bytes (document 01: "Shown is what its report holds").
use Rattle.std.specs.Prelude.{ℕ, ◌+◌, ◌-◌, ◌*◌, ◌^◌, ◌<◌, List, ℤ}
use Rattle.std.specs.Int.Signed.{mag}
use Rattle.layout.specs.Field.{u32_at, u64_at, i64_at}
use Rattle.margin.specs.declared.CurveMargin.{CurveMargin}
use Rattle.margin.specs.declared.CurrencyMargin.{CurrencyMargin}

-- "from 8, 32 bytes a curve": curve k from 1, its id
abbrev pub curve_place : ℕ → ℕ
curve_place k = 8 + 32 * (k - 1)

-- "from 264": currency c, 1 TRY, 2 USD, 3 EUR, 24 bytes each
abbrev pub currency_place : ℕ → ℕ
currency_place c = 264 + 24 * (c - 1)

abbrev pub shown_account : List ℕ → ℕ
shown_account b = u32_at b 4

abbrev pub shown_base : List ℕ → ℕ → ℤ
shown_base b k = i64_at b (curve_place k)

abbrev pub shown_loss : List ℕ → ℕ → ℤ
shown_loss b k = i64_at b (curve_place k + 8)

abbrev pub shown_scenario : List ℕ → ℕ → ℕ
shown_scenario b k = u32_at b (curve_place k + 16)

abbrev pub shown_currency : List ℕ → ℕ → ℕ
shown_currency b k = u32_at b (curve_place k + 20)

abbrev pub shown_tolerance : List ℕ → ℕ → ℕ
shown_tolerance b k = u64_at b (curve_place k + 24)

abbrev pub shown_initial : List ℕ → ℕ → ℤ
shown_initial b c = i64_at b (currency_place c)

abbrev pub shown_variation : List ℕ → ℕ → ℤ
shown_variation b c = i64_at b (currency_place c + 8)

abbrev pub shown_total : List ℕ → ℕ → ℤ
shown_total b c = i64_at b (currency_place c + 16)

-- all that is shown of a curve, and of a currency
unfoldable pub curve_shown : List ℕ → ℕ → CurveMargin
curve_shown b k =
    record {
      base = shown_base b k;
      worstloss = shown_loss b k;
      scenario = shown_scenario b k;
      currency = shown_currency b k;
      tolerance = shown_tolerance b k;
    }

unfoldable pub currency_shown : List ℕ → ℕ → CurrencyMargin
currency_shown b c = record { initial = shown_initial b c; variation = shown_variation b c; total = shown_total b c }

-- the figures fit their fields
pub record CurveFits (m : CurveMargin) : Type 0 where
  pub base : mag m.base < 2 ^ 63
  pub worstloss : mag m.worstloss < 2 ^ 63
  pub scenario : m.scenario < 2 ^ 32
  pub currency : m.currency < 2 ^ 32
  pub tolerance : m.tolerance < 2 ^ 64

pub record CurrencyFits (m : CurrencyMargin) : Type 0 where
  pub initial : mag m.initial < 2 ^ 63
  pub variation : mag m.variation < 2 ^ 63
  pub total : mag m.total < 2 ^ 63
