-- What refuses a read, an append or a strike (document 01, "Grounds of refusal"): the whole-book check, then a new record's grounds, then 14
-- and 15.
use Rattle.std.specs.Prelude.{ℕ, ◌+◌, ◌/◌, ◌%◌, Bool, not, ◌&&◌, ◌||◌, List, eqb, ltb, length, Ok, Some}
use Rattle.ground.specs.declared.Ground.TheVariants.{Position, BookSpace}
use Rattle.ground.specs.Verdicts.{Verdict, or_else, unless}
use Rattle.book.specs.Parts.{curve_count, curves_of, trade_count}
use Rattle.book.specs.Verdict.{bytes_verdict}
use Rattle.acceptance.specs.Verdict.{Today, book_verdict}

-- the block of the record at a position: nine to a block, behind the header and the curves
abbrev pub block_of : List ℕ → ℕ → ℕ
block_of s position = 1 + curve_count s + position / 9

-- 14. "No trade has that position."
unfoldable pub breaks_position : List ℕ → ℕ → Bool
breaks_position s position = not (ltb position (trade_count s))

-- "in a new block if the last is full or there is none": where so many trades fill their blocks
abbrev pub needs_block : ℕ → Bool
needs_block trades = eqb (trades % 9) 0

-- 15. "A new block is needed, and the book has 128 or the lent bytes end before that block does."
unfoldable pub breaks_book_space : ℕ → ℕ → ℕ → Bool
breaks_book_space trades used lent = needs_block trades && (eqb (used / 512) 128 || ltb lent (used + 512))

-- a strike, given the day, or a read, given none: the whole-book check, then 14, whose block is 0
unfoldable pub position_verdict : List ℕ → ℕ → Today → ℕ → Verdict
position_verdict s used today position = or_else (book_verdict s used today) (unless (breaks_position s position) Position 0 (Ok tt))

-- "then a new record by 8 to 12", of "the block it would take"; then 15, whose block is 0
unfoldable pub new_record_verdict : List ℕ → ℕ → List ℕ → Verdict
new_record_verdict s used r =
    or_else (bytes_verdict (curves_of s) r (block_of s (trade_count s)))
    (unless (breaks_book_space (trade_count s) used (length s)) BookSpace 0 (Ok tt))

-- an append, given the day: the whole-book check, then the new record; 19 comes "before a new record .. is looked at"
unfoldable pub append_verdict : List ℕ → ℕ → ℕ → List ℕ → Verdict
append_verdict s used day r = or_else (book_verdict s used (Some day)) (new_record_verdict s used r)
