-- The statement entry: its answer, and every lent byte afterwards (document 02, wish 6).
use Rattle.std.specs.Prelude.{List, ℕ, length, Some, Result, Ok}
use Rattle.ground.specs.declared.Refusal.{Refusal}
use Rattle.ground.specs.Verdicts.{Verdict, or_else, bytes_after}
use Rattle.ground.specs.Space.{space_verdict}
use Rattle.book.specs.Parts.{curve_count, records}
use Rattle.acceptance.specs.Verdict.{book_verdict}
use Rattle.report.specs.Entry.{margin_in}
use Rattle.text.specs.Text.{in_front}
use Rattle.page.specs.Page.{page}

-- the page of a book: of its curves, its margin and its trades
unfoldable pub page_of : List ℕ → List ℕ
page_of s = page (curve_count s) (margin_in s) (records s)

-- "13 also covers a page that doesn't fit."
abbrev pub page_verdict : List ℕ → ℕ → Verdict
page_verdict s space = space_verdict (length (page_of s)) space

-- "The page is given the day, as margin is.": the whole-book check, then 13
unfoldable pub statement_verdict : List ℕ → ℕ → ℕ → ℕ → Verdict
statement_verdict s used day space = or_else (book_verdict s used (Some day)) (page_verdict s space)

-- "the page's length is returned"
unfoldable pub statement_answer : List ℕ → ℕ → ℕ → ℕ → Result ℕ Refusal
statement_answer s used day space = or_else (statement_verdict s used day space) (Ok (length (page_of s)))

-- "The page is written to lent bytes ..; bytes behind it keep."
unfoldable pub statement_bytes : List ℕ → ℕ → ℕ → List ℕ → List ℕ
statement_bytes s used day out = bytes_after (statement_verdict s used day (length out)) out (in_front (page_of s) out)
