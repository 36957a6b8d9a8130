-- A copy of a book, with room for the largest: it takes the records that the book takes, and has the same parts after an append.
use mathlib.Core.Path.{◌≡◌, sym, ap, ◌∙◌}
use mathlib.Core.List.{List}
use Prim.Native.Nat.{ℕ, ◌≤◌}
use native.Mathlib.Omega.{arith}
use lib.ListN.{length, take}
use Rattle.std.specs.Prelude.{Ok, Some}
use Rattle.layout.specs.Bytes.{AreBytes}
use Rattle.book.specs.Parts.{Parts, parts_of}
use Rattle.book.specs.Encode.{book_of}
use Rattle.book.specs.Edited.{appended_parts}
use Rattle.book.proofs.Accepted.{sound}
use Rattle.book.proofs.Copied.{SameBook, same-curve-count, same-trade-count, same-book, copy-accepted}
use Rattle.acceptance.proofs.Laws.{by_parts, parts-accepted}
use Rattle.edit.specs.Refusals.{append_verdict}
use Rattle.edit.specs.Edits.{appended_book, appended}
use Rattle.edit.proofs.Given.{Admitted, append-book, admitted, admits, roomier}
use Rattle.edit.proofs.Theorems.{book-appended}

module _ (s t : List ℕ) (used : ℕ) (r : List ℕ) (bytes : AreBytes s) (w : Admitted s used r) (same : take used t ≡ take used s) (wide : 65536 ≤ length t) where
  pub copy-admits : Admitted t used r
  copy-admits =
      let b = sound s used w.accepted in
      let c = same-book s t used bytes w.accepted same in
      let count = same-trade-count s t c in
      record {
        accepted = copy-accepted s t used bytes w.accepted same;
        judged = rw (ap (λ (p : Parts). p.curves) c, same-curve-count s t c, count) w.judged;
        roomy = rw count (roomier _ used (length s) (length t) w.roomy (omega (arith, b.blocks)) b.limit wide);
      }

  pub copy-appended-book : appended_book t r ≡ appended_book s r
  unfolding appended_book
  copy-appended-book = ap (λ (p : Parts). book_of (appended_parts p r)) (same-book s t used bytes w.accepted same)

-- the same on a day
module _ (s t : List ℕ) (used day : ℕ) (r : List ℕ) (bytes : AreBytes s) (ok : append_verdict s used day r ≡ Ok tt) (same : take used t ≡ take used s) (wide : 65536 ≤ length t) where
  pub copy-takes : append_verdict t used day r ≡ Ok tt
  copy-takes =
      let w = admitted s used r day ok in
      let a = copy-admits s t used r bytes w same wide in
      let h = append-book s used r day ok in
      admits t used r day (by_parts t used (Some day) (parts_of s) a.accepted (same-book s t used bytes w.accepted same) ∙ parts-accepted s used (Some day) h) a

  pub copy-appended : AreBytes t → length r ≡ 56 → SameBook (appended s used day r) (appended t used day r)
  copy-appended copy-bytes long =
      let c = same-book s t used bytes (admitted s used r day ok).accepted same in
      book-appended t used copy-bytes r long day copy-takes ∙ ap (λ (p : Parts). appended_parts p r) c ∙ sym (book-appended s used bytes r long day ok)
