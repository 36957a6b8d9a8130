-- The account statement on paper (document 02, wish 6): a line of the page, that of the account and that of a trade.
use Rattle.std.specs.Prelude.{ℕ, ◌-◌, ◌*◌, cond, ℤ, pos, length}
use mathlib.Core.List.{List, [], ◌∷◌, ◌++◌, flat_map}
use Rattle.record.specs.declared.Fields.{Fields}
use Rattle.record.specs.Bytes.{fields_of}
use Rattle.record.specs.Uses.{has_security, last_payment_day}
use Rattle.text.specs.Text.{ascii, decimal_of, figure}
use Rattle.text.specs.Columns.{blanks, amount_column}

-- "Lines are 80 characters and a line feed": what stands "from the left", and amounts, "the last ending at column 80"
unfoldable pub page_line : List ℕ → List ℤ → List ℕ
page_line left amounts = left ++ blanks (80 - 22 * length amounts - length left) ++ flat_map amount_column amounts ++ ascii "\n"

-- ""account" and its number"
unfoldable pub title_line : ℕ → List ℕ
title_line account = page_line (figure "account " account) []

-- "last payment day (value day 2 where it has no payment day)"
unfoldable pub line_day : Fields → ℕ
line_day f =
    cond (has_security f.form.security) (last_payment_day f.days.first f.days.period f.days.payments) f.days.valueday2

-- "a trade's position, kind, side (both as the record's numbers) and day", "one blank apart"
unfoldable pub trade_left : ℕ → Fields → List ℕ
trade_left position f =
    decimal_of position ++ figure " " f.form.kind ++ figure " " f.form.side ++ figure " " (line_day f)

-- and its nominal, 0 where it has none
unfoldable pub trade_line : ℕ → Fields → List ℕ
trade_line position f = page_line (trade_left position f) (pos f.amounts.nominal ∷ [])

abbrev pub record_line : ℕ → List ℕ → List ℕ
record_line position r = trade_line position (fields_of r)
