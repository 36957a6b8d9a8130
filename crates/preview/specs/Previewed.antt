-- What a dealer may count on, of an accepted book and a record that append takes.
use Rattle.std.specs.Prelude.{◌≡◌, ℕ, ◌≤◌, List, length, Ok, Some}
use Rattle.acceptance.specs.Verdict.{book_verdict}
use Rattle.edit.specs.Edits.{BookAppended, appended, used_appended}
use Rattle.report.specs.Entry.{margin_bytes}
use Rattle.report.specs.Bounded.{Bounded}
use Rattle.preview.specs.Preview.{preview_bytes}

-- "the report as it would be with one more trade"
pub record Previewed (s : List ℕ) (used day : ℕ) (r out : List ℕ) : Type 0 where
  -- the bytes that margin writes after append
  pub report : preview_bytes s used day r out ≡ margin_bytes (appended s used day r) (used_appended s used day r) day out
  -- of the book with the record
  pub accepted : book_verdict (appended s used day r) (used_appended s used day r) (Some day) ≡ Ok tt
  pub book : BookAppended s (appended s used day r) r
  -- demand 3 of what it shows
  pub bounded : 512 ≤ length out → Bounded (appended s used day r) (preview_bytes s used day r out)
