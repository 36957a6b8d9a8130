-- The margin entry: its answer, and every lent byte afterwards (document 01, "Margin" and ground 13).
use Rattle.std.specs.Prelude.{List, ◌++◌, ℕ, length, drop, Some}
use Rattle.ground.specs.Verdicts.{Verdict, or_else, bytes_after}
use Rattle.ground.specs.Space.{space_verdict}
use Rattle.book.specs.Parts.{header_of}
use Rattle.acceptance.specs.Verdict.{book_verdict}
use Rattle.margin.specs.declared.Margin.{Margin}
use Rattle.margin.specs.Margins.{margin_of}
use Rattle.report_block.specs.Report.{report_bytes}
use Rattle.exposure.specs.Exposures.{exposures}

-- the margin of a book: of its account, with what it has on its curves
unfoldable pub margin_in : List ℕ → Margin
margin_in s = margin_of (header_of s).account (exposures s)

-- what is asked of a book that is accepted
abbrev pub report_verdict : ℕ → Verdict
report_verdict space = space_verdict 512 space

-- given the day: the whole-book check, then 13
unfoldable pub margin_verdict : List ℕ → ℕ → ℕ → ℕ → Verdict
margin_verdict s used day space = or_else (book_verdict s used (Some day)) (report_verdict space)

-- the report in the first 512 bytes, "bytes past it kept"
abbrev pub reported : List ℕ → List ℕ → List ℕ
reported s out = report_bytes (margin_in s) ++ drop 512 out

unfoldable pub margin_bytes : List ℕ → ℕ → ℕ → List ℕ → List ℕ
margin_bytes s used day out = bytes_after (margin_verdict s used day (length out)) out (reported s out)
