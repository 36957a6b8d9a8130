-- A book whose blocks are accepted and which is for another day is refused by 19, by each of the six entries that are given the day.
use mathlib.Core.Path.{◌≡◌, sym}
use mathlib.Core.List.{List}
use Prim.Native.Nat.{ℕ}
use Rattle.std.specs.Prelude.{Ok, Some}
use Rattle.ground.specs.declared.Ground.TheVariants.{ValuationDay}
use Rattle.ground.specs.declared.Refusal.{Refusal}
use Rattle.ground.specs.Verdicts.{refused}
use Rattle.book.specs.Parts.{header_of}
use Rattle.book.specs.Verdict.{blocks_verdict}
use Rattle.acceptance.specs.Verdict.{book_verdict}
use Rattle.acceptance.proofs.Laws.{other-day}
use Rattle.edit.specs.Refusals.{position_verdict, append_verdict}
use Rattle.edit.specs.Edits.{append_answer, strike_answer}
use Rattle.edit.proofs.Theorems.{refused-append, refused-strike}
use Rattle.report.proofs.Answers.{refused-book}
use Rattle.statement.proofs.Answers.{refused-statement}
use Rattle.preview.proofs.Theorems.{refused-by-append}
use Rattle.bootstrap.specs.declared.Quote.{Quote}
use Rattle.bootstrap.specs.Refusals.{bootstrap_verdict}
use Rattle.bootstrap.proofs.Theorems.{refused-bootstrap}
use Rattle.seddolki.specs.AnotherDay.{AnotherDay}

module _ (s : List ℕ) (used day : ℕ) (ok : blocks_verdict s used ≡ Ok tt) (other : (header_of s).day ≡ day → ⊥) where
  -- by 19, block 0
  abbrev by-day : Refusal
  by-day = record { by = ValuationDay; block = 0 }

  book-refused : book_verdict s used (Some day) ≡ refused ValuationDay 0
  book-refused = other-day s used day ok other

  append-refused : (r : List ℕ) → append_verdict s used day r ≡ refused ValuationDay 0
  unfolding append_verdict
  append-refused r = rw book-refused

  strike-refused : (position : ℕ) → position_verdict s used (Some day) position ≡ refused ValuationDay 0
  unfolding position_verdict
  strike-refused position = rw book-refused

  bootstrap-refused : (q : Quote) → bootstrap_verdict s used day q ≡ refused ValuationDay 0
  unfolding bootstrap_verdict
  bootstrap-refused q = rw book-refused

  pub another-day : AnotherDay s used day
  unfolding append_answer strike_answer
  another-day =
      record {
        margin = λ out. let p = refused-book s used day out by-day book-refused in (sym p.0, sym p.1);
        statement = λ out. let p = refused-statement s used day out by-day book-refused in (sym p.0, sym p.1);
        preview = λ r out. refused-by-append s used day r out by-day (append-refused r);
        append = λ r. (rw (append-refused r), (refused-append s used day r by-day (append-refused r)).0);
        strike = λ position. (rw (strike-refused position), (refused-strike s used day position by-day (strike-refused position)).0);
        bootstrap = λ q. (bootstrap-refused q, refused-bootstrap s used day q by-day (bootstrap-refused q));
      }
