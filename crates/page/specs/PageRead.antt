-- What a reader of a page goes by: an amount's line and columns.
use Rattle.std.specs.Prelude.{ℕ, zero, suc, ◌+◌, ◌*◌, List, ℤ}
use Rattle.layout.specs.Bytes.{part}
use Rattle.margin.specs.declared.CurveMargin.{CurveMargin}
use Rattle.margin.specs.Margins.{has_currency}
use Rattle.text.specs.Reading.{read_amount}
use Rattle.page.specs.Page.{one_if}

-- the amount in the 22 columns from one on, of a line: both counted from 0
unfoldable pub amount_at : List ℕ → ℕ → ℕ → ℤ
amount_at text line column = read_amount (part text (81 * line + column) 22)

-- how many currencies below one a curve has
abbrev pub currencies_below : List CurveMargin → ℕ → ℕ
currencies_below curves zero = 0
currencies_below curves (suc zero) = 0
currencies_below curves (suc (suc c)) = one_if (has_currency (suc c) curves) + currencies_below curves (suc c)
