-- The report block (document 01, "Margin"): a margin as 512 bytes.
use Rattle.std.specs.Prelude.{ℕ, replicate}
use mathlib.Core.List.{List, [], ◌∷◌, ◌++◌, flat_map}
use Rattle.layout.specs.Field.{bytes_of, twos}
use Rattle.layout.specs.Check.{sealed}
use Rattle.margin.specs.declared.CurveMargin.{CurveMargin}
use Rattle.margin.specs.declared.CurrencyMargin.{CurrencyMargin}
use Rattle.margin.specs.declared.Margin.{Margin}

-- "32 bytes a curve (base i64, worst loss i64, scenario 4 bytes, currency 4 bytes, tolerance 8 bytes)"
unfoldable pub curve_bytes : CurveMargin → List ℕ
curve_bytes m =
    bytes_of 8 (twos m.base) ++ bytes_of 8 (twos m.worstloss) ++ bytes_of 4 m.scenario ++ bytes_of 4 m.currency ++ bytes_of 8 m.tolerance

-- "initial, variation, total (i64)"
unfoldable pub currency_bytes : CurrencyMargin → List ℕ
currency_bytes m = bytes_of 8 (twos m.initial) ++ bytes_of 8 (twos m.variation) ++ bytes_of 8 (twos m.total)

-- "kind 9, number 0": bytes 0-3; "4-7 account"; "from 8" the curves; "from 264" the currencies; what no layout names is 0
unfoldable pub field_bytes : Margin → List ℕ
field_bytes m =
    (9 ∷ 0 ∷ 0 ∷ 0 ∷ []) ++ bytes_of 4 m.account ++ flat_map curve_bytes m.curves ++ flat_map currency_bytes m.currencies ++ replicate 176 0

-- "check in 508-511"
unfoldable pub report_bytes : Margin → List ℕ
report_bytes m = sealed (field_bytes m)
