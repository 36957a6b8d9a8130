-- The copy that the record is added to: the book, written over as many bytes as the largest has.
use mathlib.Core.Path.{◌≡◌, refl, sym, ap, ◌∙◌}
use Prim.Native.Nat.{ℕ, ◌+◌, ◌≤◌}
use mathlib.Core.List.{List, ◌++◌}
use native.Mathlib.Omega.{arith}
use lib.ListN.{length, take, drop}
use lib.Seq.{length-take-le}
use Rattle.std.specs.Prelude.{Ok}
use Rattle.ground.specs.Verdicts.{Verdict, bytes_after}
use Rattle.layout.specs.Bytes.{put, AreBytes}
use Rattle.layout.proofs.Bytes.{length-put, part-put}
use Rattle.book.specs.Verdict.{blocks_verdict}
use Rattle.book.proofs.Accepted.{Sound, sound}
use Rattle.edit.specs.Refusals.{append_verdict}
use Rattle.edit.specs.Edits.{appended_book, appended}
use Rattle.edit.proofs.Given.{Admitted}
use Rattle.edit.proofs.Theorems.{with-record, with-record-accepted, book-appended}
use Rattle.edit.proofs.Copies.{copy-admits, copy-appended-book}
use Rattle.report.specs.Entry.{margin_in, report_verdict, reported}
use Rattle.report.proofs.Answers.{same-margin}
use Rattle.preview.specs.Preview.{preview_verdict, preview_bytes}
use Rattle.preview.proofs.Theorems.{with-record-reported}

module _ (room : List ℕ) (wide : length room ≡ 65536) (s : List ℕ) (used : ℕ) (r : List ℕ) (w : Admitted s used r) where
  held : Sound s used
  held = sound s used w.accepted

  length-book : length (take used s) ≡ used
  length-book = length-take-le used s held.lent

  pub copy-fits : (n : ℕ) → n ≡ used → 0 + length (take n s) ≤ length room
  copy-fits n e = omega (arith, ap (λ (m : ℕ). length (take m s)) e, length-book, held.limit)

  module _ (t : List ℕ) (is-copy : t ≡ put room 0 (take used s)) where
    wide-copy : 65536 ≤ length t
    wide-copy = omega (arith, ap length is-copy, length-put room 0 (take used s))

    same_start : take used t ≡ take used s
    same_start =
        let e = part-put room 0 (take used s) (copy-fits used refl) in
        ap (take used) is-copy ∙ (rw length-book at e)

    module _ (bytes : AreBytes s) where
      pub copy-admits-record : Admitted t used r
      copy-admits-record = copy-admits s t used r bytes w same_start wide-copy

      same-appended : appended_book t r ≡ appended_book s r
      same-appended = copy-appended-book s t used r bytes w same_start wide-copy

      -- u is the copy with the record, and n its used length
      module _ (long : length r ≡ 56) (u : List ℕ) (n : ℕ) (size : n ≡ length (appended_book t r)) (added : u ≡ appended_book t r ++ drop (length (appended_book t r)) t) where
        abbrev rest : List ℕ
        rest = drop (length (appended_book t r)) t

        added_is : u ≡ appended_book s r ++ rest
        added_is = added ∙ ap (λ (b : List ℕ). b ++ rest) same-appended

        pub copy-accepted-with-record : blocks_verdict u n ≡ Ok tt
        copy-accepted-with-record = rw (added_is, size ∙ ap length same-appended) (with-record-accepted s used bytes r long w rest)

        -- its report is the preview
        module _ (day : ℕ) (ok : append_verdict s used day r ≡ Ok tt) where
          same-margins : margin_in u ≡ margin_in (appended s used day r)
          same-margins =
              same-margin (appended s used day r) u (rw added_is (with-record s used bytes r long w rest ∙ sym (book-appended s used bytes r long day ok)))

          pub copy-shown : (out : List ℕ) {v : Verdict} {after : List ℕ} → v ≡ report_verdict (length out) → after ≡ bytes_after (report_verdict (length out)) out (reported u out)
              → (v ≡ preview_verdict s used day r (length out)) × (after ≡ preview_bytes s used day r out)
          copy-shown out answer written =
              let then = with-record-reported s used day r out bytes long ok in
              (answer ∙ sym then.0, (rw same-margins at written) ∙ sym then.1)
