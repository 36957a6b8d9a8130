-- What the whole-book check says of a book that it accepts, and which books it accepts.
use mathlib.Core.Path.{◌≡◌, refl, ap, ◌∙◌}
use mathlib.Core.Bool.{false}
use mathlib.Core.List.{List}
use Prim.Native.Nat.{ℕ}
use borrow.Author.Tests.{eq-eqb, ne_eqb, eqb-true, not-false}
use Rattle.std.specs.Prelude.{Err, Ok, None, Some}
use Rattle.ground.specs.declared.Refusal.{Refusal}
use Rattle.ground.specs.declared.Ground.TheVariants.{ValuationDay}
use Rattle.ground.specs.Verdicts.{refused}
use Rattle.ground.proofs.Verdicts.{or_else-accepted, unbroken}
use Rattle.book.specs.Parts.{Parts, parts_of, header_of}
use Rattle.book.specs.Verdict.{blocks_verdict}
use Rattle.acceptance.specs.Verdict.{Today, breaks_valuation_day, book_rules, parts_verdict, book_verdict}

-- ---- an accepted book

pub record AcceptedBook (s : List ℕ) (used : ℕ) (today : Today) : Type 0 where
  -- 1 to 12
  pub blocks : blocks_verdict s used ≡ Ok tt
  -- 19
  pub day : breaks_valuation_day (header_of s).day today ≡ false

module _ (s : List ℕ) (used : ℕ) (today : Today) where
  -- bytes whose blocks are accepted are judged by their parts
  pub by_parts : (p : Parts) → blocks_verdict s used ≡ Ok tt → parts_of s ≡ p → book_verdict s used today ≡ parts_verdict p today
  unfolding book_verdict
  by_parts p ok same = rw (ok, ap (λ (q : Parts). parts_verdict q today) same)

  pub parts-accepted : book_verdict s used today ≡ Ok tt → parts_verdict (parts_of s) today ≡ Ok tt
  unfolding book_verdict
  parts-accepted h = (or_else-accepted (blocks_verdict s used) (parts_verdict (parts_of s) today) tt h).1

  pub book-accepted : book_verdict s used today ≡ Ok tt → AcceptedBook s used today
  unfolding book_verdict
  book-accepted h =
      record { blocks = (or_else-accepted (blocks_verdict s used) (parts_verdict (parts_of s) today) tt h).0; day = unbroken 0 (book_rules (parts_of s) today) (parts-accepted h) 0 }

  -- a refusal of a block is the answer, whatever the day
  pub block_refused : (r : Refusal) → blocks_verdict s used ≡ Err r → book_verdict s used today ≡ Err r
  unfolding book_verdict
  block_refused r e = rw e

-- ---- the days

-- parts that are accepted on a day are accepted where none is given
pub none-given : (p : Parts) (today : Today) → parts_verdict p today ≡ Ok tt → parts_verdict p None ≡ Ok tt
unfolding breaks_valuation_day
none-given p today h = refl

module _ (s : List ℕ) (used : ℕ) where
  -- and so is a book
  pub accepted-undated : (today : Today) → book_verdict s used today ≡ Ok tt → book_verdict s used None ≡ Ok tt
  accepted-undated today h =
      by_parts s used None (parts_of s) (book-accepted s used today h).blocks refl ∙ none-given (parts_of s) today (parts-accepted s used today h)

  -- the day of an accepted book is the one given
  pub day-given : (day : ℕ) → book_verdict s used (Some day) ≡ Ok tt → (header_of s).day ≡ day
  unfolding breaks_valuation_day
  day-given day h = eqb-true (header_of s).day day (not-false _ (book-accepted s used (Some day) h).day)

  -- 19 of any other, block 0
  pub other-day : (day : ℕ) → blocks_verdict s used ≡ Ok tt → ((header_of s).day ≡ day → ⊥) → book_verdict s used (Some day) ≡ refused ValuationDay 0
  unfolding book_verdict breaks_valuation_day
  other-day day ok other = rw (ok, ne_eqb (header_of s).day day other)

  -- given its own day, a book is judged as without one
  pub own-day : book_verdict s used (Some (header_of s).day) ≡ book_verdict s used None
  unfolding book_verdict breaks_valuation_day
  own-day = rw (eq-eqb (header_of s).day (header_of s).day refl)
