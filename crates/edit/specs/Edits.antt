-- What a read, an append and a strike answer, and every lent byte afterwards (document 01, "Editing and smaller entries").
use Rattle.std.specs.Prelude.{ℕ, ◌-◌, ◌≡◌, List, ◌++◌, length, drop, replicate, None, Some, Result, Ok, Err}
use Rattle.ground.specs.declared.Refusal.{Refusal}
use Rattle.ground.specs.Verdicts.{or_else, bytes_after}
use Rattle.book.specs.Parts.{record_at, parts_of}
use Rattle.book.specs.Encode.{book_of}
use Rattle.book.specs.Edited.{appended_parts, struck_parts}
use Rattle.edit.specs.Refusals.{position_verdict, append_verdict}

-- the used length after a call: "Append and strike return the new used length"
abbrev pub used_after : Result ℕ Refusal → ℕ → ℕ
used_after (Ok n) used = n
used_after (Err refusal) used = used

-- ---- read

-- "all 0 from a refused read"
abbrev pub record_found : Result (List ℕ) Refusal → List ℕ
record_found (Ok r) = r
record_found (Err refusal) = replicate 56 0

-- "Read gives the record at a position from 0."
unfoldable pub found : List ℕ → ℕ → ℕ → Result (List ℕ) Refusal
found s used position = or_else (position_verdict s used None position) (Ok (record_at s position))

-- ---- append

-- the book with the record
unfoldable pub appended_book : List ℕ → List ℕ → List ℕ
appended_book s r = book_of (appended_parts (parts_of s) r)

unfoldable pub append_answer : List ℕ → ℕ → ℕ → List ℕ → Result ℕ Refusal
append_answer s used day r = or_else (append_verdict s used day r) (Ok (length (appended_book s r)))

-- the used length after an append, refused or not
abbrev pub used_appended : List ℕ → ℕ → ℕ → List ℕ → ℕ
used_appended s used day r = used_after (append_answer s used day r) used

-- "bytes behind the book, save a new block's, stay"
unfoldable pub appended : List ℕ → ℕ → ℕ → List ℕ → List ℕ
appended s used day r = bytes_after (append_verdict s used day r) s (appended_book s r ++ drop (length (appended_book s r)) s)

-- the book after it: as it was, and the record behind the others
abbrev pub BookAppended : List ℕ → List ℕ → List ℕ → Type 0
BookAppended s t r = parts_of t ≡ appended_parts (parts_of s) r

-- ---- strike

-- the book without it
unfoldable pub struck_book : List ℕ → ℕ → List ℕ
struck_book s position = book_of (struck_parts (parts_of s) position)

unfoldable pub strike_answer : List ℕ → ℕ → ℕ → ℕ → Result ℕ Refusal
strike_answer s used day position = or_else (position_verdict s used (Some day) position) (Ok (length (struck_book s position)))

-- the used length after a strike, refused or not
abbrev pub used_struck : List ℕ → ℕ → ℕ → ℕ → ℕ
used_struck s used day position = used_after (strike_answer s used day position) used

-- the book after it: as it was, but for the record
abbrev pub BookStruck : List ℕ → List ℕ → ℕ → Type 0
BookStruck s t position = parts_of t ≡ struck_parts (parts_of s) position

-- "a block left empty becomes zeros and the used length falls by 512"; bytes behind the book stay
unfoldable pub struck : List ℕ → ℕ → ℕ → ℕ → List ℕ
struck s used day position =
    bytes_after (position_verdict s used (Some day) position) s
    (struck_book s position ++ replicate (used - length (struck_book s position)) 0 ++ drop used s)
