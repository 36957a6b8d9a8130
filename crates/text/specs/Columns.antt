-- Amounts in columns (document 02, wish 6).
use Rattle.std.specs.Prelude.{ℕ, ◌-◌, ◌/◌, ◌%◌, List, ◌++◌, ℤ, length, replicate}
use Rattle.text.specs.Text.{ascii, decimal_of, with_sign}

-- that of a blank is 32
abbrev pub blanks : ℕ → List ℕ
blanks n = replicate n 32

-- "a point before the last two digits": kuruş as lira and kuruş
unfoldable pub money_text : ℕ → List ℕ
money_text n = decimal_of (n / 100) ++ ascii "." ++ decimal_of (n / 10 % 10) ++ decimal_of (n % 10)

-- "and a minus directly before the first"
abbrev pub amount_text : ℤ → List ℕ
amount_text z = with_sign money_text z

-- "right-aligned", in so many columns
unfoldable pub right_aligned : ℕ → ℤ → List ℕ
right_aligned width z = blanks (width - length (amount_text z)) ++ amount_text z

-- "each right-aligned in 22 columns"
abbrev pub amount_column : ℤ → List ℕ
amount_column z = right_aligned 22 z
