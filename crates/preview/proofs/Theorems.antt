-- A preview is what append and margin would answer and write; a copy of the book has the same one, if it has room for the largest book.
use mathlib.Core.Path.{◌≡◌, refl, sym, ◌∙◌}
use Prim.Native.Nat.{ℕ, ◌≤◌, ◌<◌}
use mathlib.Core.List.{List}
use lib.ListN.{length, take}
use borrow.Author.Tests.{lt-ltb}
use Rattle.std.specs.Prelude.{Err, Ok, Some}
use Rattle.ground.specs.declared.Ground.TheVariants.{ReportSpace}
use Rattle.ground.specs.declared.Refusal.{Refusal}
use Rattle.ground.specs.Verdicts.{Verdict, refused, bytes_after}
use Rattle.ground.specs.Space.{breaks_space}
use Rattle.ground.proofs.Verdicts.{or_else-accepted}
use Rattle.layout.specs.Bytes.{AreBytes}
use Rattle.acceptance.specs.Verdict.{book_verdict}
use Rattle.edit.specs.Refusals.{append_verdict}
use Rattle.edit.specs.Edits.{appended, used_appended}
use Rattle.edit.proofs.Given.{append-book}
use Rattle.edit.proofs.Theorems.{appended-accepted, book-appended}
use Rattle.edit.proofs.Copies.{copy-takes, copy-appended}
use Rattle.report.specs.Entry.{report_verdict, margin_verdict, reported, margin_bytes}
use Rattle.report.specs.Bounded.{Bounded}
use Rattle.report.proofs.Answers.{accepted-book-reported, same-report}
use Rattle.report.proofs.Demand.{demand, demand-met}
use Rattle.preview.specs.Preview.{preview_verdict, preview_bytes}
use Rattle.preview.specs.Previewed.{Previewed}

module _ (s : List ℕ) (used day : ℕ) (r out : List ℕ) where
  -- refused by append: its ground and block, and nothing is written
  pub refused-by-append : (refusal : Refusal) → append_verdict s used day r ≡ Err refusal
      → (preview_verdict s used day r (length out) ≡ Err refusal) × (preview_bytes s used day r out ≡ out)
  unfolding preview_verdict preview_bytes
  refused-by-append refusal e = (rw e, rw e)

  -- else what margin answers and writes after it
  pub as-after-append : append_verdict s used day r ≡ Ok tt
      → (preview_verdict s used day r (length out) ≡ margin_verdict (appended s used day r) (used_appended s used day r) day (length out))
      × (preview_bytes s used day r out ≡ margin_bytes (appended s used day r) (used_appended s used day r) day out)
  unfolding preview_verdict preview_bytes
  as-after-append e = (rw e, rw e)

  -- the bytes that an accepted call leaves are within demand 3
  pub preview-bounded : {v : Verdict} {after : List ℕ} → v ≡ preview_verdict s used day r (length out) → after ≡ preview_bytes s used day r out → v ≡ Ok tt
      → Bounded (appended s used day r) after
  unfolding preview_verdict
  preview-bounded e f h =
      let both = or_else-accepted (append_verdict s used day r) (margin_verdict (appended s used day r) (used_appended s used day r) day (length out)) tt (sym e ∙ h) in
      demand-met (appended s used day r) (used_appended s used day r) day out (sym both.1) (f ∙ (as-after-append both.0).1) refl

  module _ (bytes : AreBytes s) (long : length r ≡ 56) (ok : append_verdict s used day r ≡ Ok tt) where
    accepted-with-record : book_verdict (appended s used day r) (used_appended s used day r) (Some day) ≡ Ok tt
    accepted-with-record = appended-accepted s used bytes r long day ok (Some day) (append-book s used r day ok)

    -- and that is up to the report space alone
    pub with-record-reported : (preview_verdict s used day r (length out) ≡ report_verdict (length out))
        × (preview_bytes s used day r out ≡ bytes_after (report_verdict (length out)) out (reported (appended s used day r) out))
    with-record-reported =
        let after = as-after-append ok in
        let then = accepted-book-reported (appended s used day r) (used_appended s used day r) day out accepted-with-record in
        (after.0 ∙ then.0, after.1 ∙ then.1)

    pub previewed : Previewed s used day r out
    previewed =
        let accepted = accepted-with-record in
        let shown = (as-after-append ok).1 in
        record {
          report = shown;
          accepted = accepted;
          book = book-appended s used bytes r long day ok;
          bounded = λ space. rw shown (demand (appended s used day r) (used_appended s used day r) day out accepted space);
        }

    -- 13 comes last
    pub no-report-space : length out < 512 → (preview_verdict s used day r (length out) ≡ refused ReportSpace 0) × (preview_bytes s used day r out ≡ out)
    unfolding breaks_space
    no-report-space short =
        let e = lt-ltb (length out) 512 short in
        (rw e at with-record-reported.0, rw e at with-record-reported.1)

    -- lent bytes behind the book make no difference
    pub copy-previewed : (t : List ℕ) → AreBytes t → take used t ≡ take used s → 65536 ≤ length t
        → (preview_verdict t used day r (length out) ≡ preview_verdict s used day r (length out)) × (preview_bytes t used day r out ≡ preview_bytes s used day r out)
    unfolding preview_verdict preview_bytes
    copy-previewed t copy-bytes same wide =
        let taken = copy-takes s t used day r bytes ok same wide in
        let accepted-copy = appended-accepted t used copy-bytes r long day taken (Some day) (append-book t used r day taken) in
        let reports = same-report (appended s used day r) (appended t used day r) (used_appended s used day r) (used_appended t used day r) day out
        accepted-with-record accepted-copy (copy-appended s t used day r bytes ok same wide copy-bytes long) in
        (rw (ok, taken) reports.0, rw (ok, taken) reports.1)
