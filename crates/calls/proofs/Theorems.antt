-- What every list of calls keeps.
use mathlib.Core.Path.{◌≡◌, refl, sym, ◌∙◌, ap}
use mathlib.Core.List.{List, [], ◌∷◌}
use Prim.Native.Nat.{ℕ}
use lib.ListN.{length}
use Rattle.std.specs.Prelude.{Err, Ok, Some}
use Rattle.laws.specs.All.{All}
use Rattle.ground.specs.Verdicts.{Verdict}
use Rattle.layout.specs.Bytes.{AreBytes}
use Rattle.book.specs.Parts.{Parts, header_of}
use Rattle.acceptance.specs.Verdict.{book_verdict}
use Rattle.acceptance.proofs.Laws.{day-given}
use Rattle.edit.specs.Refusals.{position_verdict, append_verdict}
use Rattle.edit.specs.Edits.{appended, struck}
use Rattle.edit.proofs.Theorems.{refused-append, refused-strike, append-accepted, strike-accepted, book-appended, book-struck}
use Rattle.bootstrap.specs.declared.Quote.{Quote}
use Rattle.bootstrap.specs.Refusals.{bootstrap_verdict}
use Rattle.bootstrap.specs.Bootstrap.{bootstrapped}
use Rattle.bootstrap.proofs.Added.{accepted-on-day}
use Rattle.bootstrap.proofs.Theorems.{refused-bootstrap, book-extended}
use Rattle.calls.specs.Calls.{State, Call, Append, Strike, Bootstrap, Passable, after, after_all, StillAccepted}
use Rattle.calls.proofs.Bytes.{bytes-appended, bytes-struck, bytes-bootstrapped}

-- what each call keeps, every list keeps
pub list-keeps : (I : State → Type 0) → ((s : State) (c : Call) → Passable c → I s → I (after s c)) → (s : State) (cs : List Call) → All Passable cs → I s → I (after_all s cs)
unfolding after_all
list-keeps I step s [] fine h = h
list-keeps I step s (c ∷ cs) fine h = list-keeps I step (after s c) cs fine.1 (step s c fine.0 h)

-- ---- the header

module _ (s : List ℕ) (used day : ℕ) (bytes : AreBytes s) where
  header-appended : (r : List ℕ) → length r ≡ 56 → header_of (appended s used day r) ≡ header_of s
  header-appended r long = go (append_verdict s used day r) refl
    where
      go : (v : Verdict) → append_verdict s used day r ≡ v → header_of (appended s used day r) ≡ header_of s
      go (Ok tt) e = ap (λ (p : Parts). p.header) (book-appended s used bytes r long day e)
      go (Err refusal) e = rw (refused-append s used day r refusal e).0

  header-struck : (position : ℕ) → header_of (struck s used day position) ≡ header_of s
  header-struck position = go (position_verdict s used (Some day) position) refl
    where
      go : (v : Verdict) → position_verdict s used (Some day) position ≡ v → header_of (struck s used day position) ≡ header_of s
      go (Ok tt) e = ap (λ (p : Parts). p.header) (book-struck s used bytes position day e)
      go (Err refusal) e = rw (refused-strike s used day position refusal e).0

  header-bootstrapped : (q : Quote) → header_of (bootstrapped s used day q) ≡ header_of s
  header-bootstrapped q = go (bootstrap_verdict s used day q) refl
    where
      go : (v : Verdict) → bootstrap_verdict s used day q ≡ v → header_of (bootstrapped s used day q) ≡ header_of s
      go (Ok tt) e = ap (λ (p : Parts). p.header) (book-extended s used day q bytes e).parts
      go (Err refusal) e = rw (refused-bootstrap s used day q refusal e)

-- ---- the book

-- a bootstrap of an accepted book leaves an accepted book, refused or not, whatever day it was given
bootstrap-accepted : (s : List ℕ) (used day other : ℕ) (q : Quote) → AreBytes s → book_verdict s used (Some day) ≡ Ok tt
    → book_verdict (bootstrapped s used other q) used (Some day) ≡ Ok tt
bootstrap-accepted s used day other q bytes ok = go (bootstrap_verdict s used other q) refl
  where
    go : (v : Verdict) → bootstrap_verdict s used other q ≡ v → book_verdict (bootstrapped s used other q) used (Some day) ≡ Ok tt
    go (Ok tt) e =
        let same : other ≡ day = sym (day-given s used other (accepted-on-day s used other q e)) ∙ day-given s used day ok in
        ap (λ (d : ℕ). book_verdict (bootstrapped s used other q) used (Some d)) (sym same) ∙ (book-extended s used other q bytes e).accepted
    go (Err refusal) e = rw (refused-bootstrap s used other q refusal e) ok

module _ (day : ℕ) (first : State) where
  call-keeps : (s : State) (c : Call) → Passable c → StillAccepted day first s → StillAccepted day first (after s c)
  unfolding after
  call-keeps s (Append other r) fine h =
      record {
        bytes = bytes-appended s.bytes s.used other h.bytes r fine.1;
        accepted = append-accepted s.bytes s.used h.bytes r fine.0 other (Some day) h.accepted;
        header = header-appended s.bytes s.used other h.bytes r fine.0 ∙ h.header;
      }
  call-keeps s (Strike other position) fine h =
      record {
        bytes = bytes-struck s.bytes s.used other h.bytes position;
        accepted = strike-accepted s.bytes s.used h.bytes position other (Some day) h.accepted;
        header = header-struck s.bytes s.used other h.bytes position ∙ h.header;
      }
  call-keeps s (Bootstrap other q) fine h =
      record {
        bytes = bytes-bootstrapped s.bytes s.used other h.bytes q;
        accepted = bootstrap-accepted s.bytes s.used day other q h.bytes h.accepted;
        header = header-bootstrapped s.bytes s.used other h.bytes q ∙ h.header;
      }

  -- from a book that is accepted on a day, it is accepted on that day after every list of calls, whatever days they were given
  pub accepted-after : (cs : List Call) → All Passable cs → AreBytes first.bytes → book_verdict first.bytes first.used (Some day) ≡ Ok tt
      → StillAccepted day first (after_all first cs)
  accepted-after cs fine bytes ok = list-keeps (StillAccepted day first) call-keeps first cs fine (record { bytes = bytes; accepted = ok; header = refl })
