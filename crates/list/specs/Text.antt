-- The list program's text for a book (document 01, "Checked figures"), and what lent bytes hold of it.
use Rattle.std.specs.Prelude.{List, ℕ, length, take, Result, Err, Ok, Some}
use Rattle.ground.specs.declared.Refusal.{Refusal}
use Rattle.ground.specs.Verdicts.{Verdict, or_else, bytes_after}
use Rattle.ground.specs.Number.{number_of}
use Rattle.ground.specs.Space.{space_verdict}
use Rattle.book.specs.Parts.{header_of, curve_count}
use Rattle.acceptance.specs.Verdict.{book_verdict}
use Rattle.margin.specs.declared.Margin.{Margin}
use Rattle.text.specs.Text.{in_front}
use Rattle.listing.specs.Listing.{listing, refused_line}
use Rattle.report.specs.Entry.{margin_in}

-- by the verdict: the lines of the margin of so many curves, or "one line only"
abbrev pub text_for : Verdict → ℕ → Margin → List ℕ
text_for (Ok nothing) count m = listing count m
text_for (Err r) count m = refused_line (number_of r.by) r.block

-- a book of a used length: its verdict, its curves, its margin; the day is that of the sentence "the list program takes the book's own"
unfoldable pub list_text : List ℕ → ℕ → List ℕ
list_text s used = text_for (book_verdict s used (Some (header_of s).day)) (curve_count s) (margin_in s)

-- 13, where the space is under its length
abbrev pub list_verdict : List ℕ → ℕ → ℕ → Verdict
list_verdict s used space = space_verdict (length (list_text s used)) space

-- the answer: the text's length, or 13 and block 0
unfoldable pub list_answer : List ℕ → ℕ → ℕ → Result ℕ Refusal
list_answer s used space = or_else (list_verdict s used space) (Ok (length (list_text s used)))

-- the lent bytes: the text and what lies past it, or nothing written
unfoldable pub list_bytes : List ℕ → ℕ → List ℕ → List ℕ
list_bytes s used out = bytes_after (list_verdict s used (length out)) out (in_front (list_text s used) out)

-- what the program prints for its input: a book has at most 65,536 bytes, and of a longer input one byte more is kept
abbrev pub printed : List ℕ → List ℕ
printed input = list_text (take 65537 input) (length (take 65537 input))
