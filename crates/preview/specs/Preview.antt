-- The report of a book with one more trade, the book not written (document 02, wish 2): what append and margin themselves answer and write.
use Rattle.std.specs.Prelude.{ℕ, List}
use Rattle.ground.specs.Verdicts.{Verdict, or_else, bytes_after}
use Rattle.edit.specs.Refusals.{append_verdict}
use Rattle.edit.specs.Edits.{appended, used_appended}
use Rattle.report.specs.Entry.{margin_verdict, margin_bytes}

-- "refused when either would be, by append's number first"
unfoldable pub preview_verdict : List ℕ → ℕ → ℕ → List ℕ → ℕ → Verdict
preview_verdict s used day r space = or_else (append_verdict s used day r) (margin_verdict (appended s used day r) (used_appended s used day r) day space)

-- "It equals the report of a copy, in as many lent bytes, after append"
unfoldable pub preview_bytes : List ℕ → ℕ → ℕ → List ℕ → List ℕ → List ℕ
preview_bytes s used day r out = bytes_after (append_verdict s used day r) out (margin_bytes (appended s used day r) (used_appended s used day r) day out)
