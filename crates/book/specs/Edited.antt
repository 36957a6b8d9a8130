-- The parts of a book after an append, a strike and a bootstrap (document 01, "Editing and smaller entries"; document 02, wish 1).
use Rattle.std.specs.Prelude.{ℕ, ◌+◌, ◌-◌, List, [], ◌∷◌, ◌++◌, set, take, drop}
use Rattle.book.specs.Parts.{Parts}

-- the curve blocks of a book with these trades: none depends on them
abbrev pub curves_with : List (List ℕ) → List (List ℕ) → List (List ℕ)
curves_with curves trades = curves

-- other trades; the header and the curves are the book's
abbrev pub with_trades : Parts → List (List ℕ) → Parts
with_trades p trades = record { header = p.header; curves = curves_with p.curves trades; trades = trades }

-- "Append adds a record behind the last"
abbrev pub appended_parts : Parts → List ℕ → Parts
appended_parts p r = with_trades p (p.trades ++ r ∷ [])

-- the records but the one at a position
abbrev pub without : List (List ℕ) → ℕ → List (List ℕ)
without rs position = take position rs ++ drop (position + 1) rs

-- "Strike closes the gap"
abbrev pub struck_parts : Parts → ℕ → Parts
struck_parts p position = with_trades p (without p.trades position)

-- another block for the curve of an id; the header and the trades are the book's
abbrev pub with_curve : Parts → ℕ → List ℕ → Parts
with_curve p id block = record { header = p.header; curves = curves_with (set p.curves (id - 1) block) p.trades; trades = p.trades }
