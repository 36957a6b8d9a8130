-- The margin entry's answer and bytes, by what was found.
use mathlib.Core.Path.{◌≡◌, refl, ap, ◌∙◌}
use mathlib.Core.Bool.{Bool}
use mathlib.Core.List.{List, ◌++◌}
use Prim.Native.Nat.{ℕ, ◌≤◌}
use lib.ListN.{length, drop}
use borrow.Author.Tests.{ltb-false}
use Rattle.std.specs.Prelude.{Err, Ok, Some}
use Rattle.ground.specs.declared.Ground.TheVariants.{ReportSpace}
use Rattle.ground.specs.declared.Refusal.{Refusal}
use Rattle.ground.specs.Verdicts.{Verdict, unless, bytes_after}
use Rattle.ground.specs.Space.{breaks_space}
use Rattle.ground.proofs.Verdicts.{unless-accepted}
use Rattle.book.specs.Parts.{Parts}
use Rattle.book.proofs.Copied.{SameBook}
use Rattle.margin.specs.declared.Margin.{Margin}
use Rattle.report_block.specs.Report.{report_bytes}
use Rattle.exposure.proofs.Parts.{same-exposures}
use Rattle.acceptance.specs.Verdict.{book_verdict}
use Rattle.report.specs.Entry.{margin_in, report_verdict, margin_verdict, reported, margin_bytes}

-- what `refuse_if` answers of the report space
pub space-judged : {v : Verdict} {broken : Bool} (space : ℕ) → v ≡ unless broken ReportSpace 0 (Ok tt) → broken ≡ breaks_space 512 space → report_verdict space ≡ v
space-judged space e f = rw (e, f) refl

module _ (s out : List ℕ) where
  pub space : report_verdict (length out) ≡ Ok tt → 512 ≤ length out
  unfolding breaks_space
  space e = ltb-false (length out) 512 (unless-accepted _ ReportSpace 0 _ _ e).0

  -- 13 does not apply
  pub filled : (m : Margin) {after : List ℕ} → report_verdict (length out) ≡ Ok tt → m ≡ margin_in s → after ≡ report_bytes m ++ drop 512 out
      → after ≡ bytes_after (report_verdict (length out)) out (reported s out)
  filled m f g h = rw f (h ∙ rw g refl)

module _ (s : List ℕ) (used day : ℕ) (out : List ℕ) where
  -- the book is refused
  pub refused-book : (r : Refusal) → book_verdict s used (Some day) ≡ Err r → (Err r ≡ margin_verdict s used day (length out)) × (out ≡ margin_bytes s used day out)
  unfolding margin_verdict margin_bytes
  refused-book r e = (rw e refl, rw e refl)

  -- or accepted, and then it is up to the report space
  pub accepted-book-reported : book_verdict s used (Some day) ≡ Ok tt
      → (margin_verdict s used day (length out) ≡ report_verdict (length out)) × (margin_bytes s used day out ≡ bytes_after (report_verdict (length out)) out (reported s out))
  unfolding margin_verdict margin_bytes
  accepted-book-reported e = (rw e, rw e)

-- ---- two accepted books with the same parts

-- the same margin
pub same-margin : (s t : List ℕ) → SameBook s t → margin_in t ≡ margin_in s
unfolding margin_in
same-margin s t same = rw (ap (λ (p : Parts). p.header.account) same, same-exposures s t same)

-- and so the same answer and bytes, whatever their used lengths
pub same-report : (s t : List ℕ) (used n day : ℕ) (out : List ℕ) → book_verdict s used (Some day) ≡ Ok tt → book_verdict t n (Some day) ≡ Ok tt → SameBook s t
    → (margin_verdict t n day (length out) ≡ margin_verdict s used day (length out)) × (margin_bytes t n day out ≡ margin_bytes s used day out)
unfolding margin_verdict margin_bytes
same-report s t used n day out e f same = (rw (e, f), rw (e, f, same-margin s t same))
