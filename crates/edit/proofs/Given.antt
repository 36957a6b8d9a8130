-- What a verdict that refuses nothing says, of an append and of a position.
use mathlib.Core.Path.{◌≡◌, refl}
use mathlib.Core.Logic.{◌⊎◌, inl, inr}
use mathlib.Core.Bool.{Bool, true, false, ◌||◌}
use mathlib.Core.List.{List}
use Prim.Native.Nat.{ℕ, ◌+◌, ◌/◌, ◌%◌, ◌≤◌, ◌<◌}
use native.Mathlib.Decide.{ℕ_discrete}
use native.Mathlib.Omega.{arith}
use borrow.Author.Tests.{eq-eqb, ne_eqb, eqb-false, eqb-true, lt-ltb, le-ltb, ltb-true, ltb-false, not-false}
use lib.Dec.{eqb, ltb}
use lib.ListN.{length}
use Rattle.std.specs.Prelude.{Err, Ok, Some}
use Rattle.laws.proofs.Bools.{both, either, neither}
use Rattle.ground.specs.declared.Ground.TheVariants.{Position, BookSpace}
use Rattle.ground.specs.declared.Refusal.{Refusal}
use Rattle.ground.specs.Verdicts.{refused}
use Rattle.book.specs.Parts.{curves_of, trade_count}
use Rattle.book.specs.Verdict.{bytes_verdict, blocks_verdict}
use Rattle.acceptance.specs.Verdict.{Today, book_verdict}
use Rattle.acceptance.proofs.Laws.{book-accepted}
use Rattle.ground.proofs.Verdicts.{unless-accepted, or_else-accepted}
use Rattle.edit.specs.Refusals.{block_of, breaks_position, breaks_book_space, position_verdict, new_record_verdict, append_verdict}

pub record HasTrade (s : List ℕ) (used position : ℕ) : Type 0 where
  pub accepted : blocks_verdict s used ≡ Ok tt
  pub in-book : position < trade_count s

pub position-book : (s : List ℕ) (used : ℕ) (today : Today) (position : ℕ) → position_verdict s used today position ≡ Ok tt → book_verdict s used today ≡ Ok tt
unfolding position_verdict
position-book s used today position h = (or_else-accepted (book_verdict s used today) _ tt h).0

pub has-trade : (s : List ℕ) (used : ℕ) (today : Today) (position : ℕ) → position_verdict s used today position ≡ Ok tt → HasTrade s used position
unfolding position_verdict breaks_position
has-trade s used today position h =
    let p = or_else-accepted (book_verdict s used today) _ tt h in
    let q = unless-accepted (breaks_position s position) Position 0 (Ok tt) tt p.1 in
    record { accepted = (book-accepted s used today (position-book s used today position h)).blocks; in-book = ltb-true position (trade_count s) (not-false _ q.0) }

-- the same for the code's calls
pub place-checked : (s : List ℕ) (used : ℕ) (today : Today) (position : ℕ) → position_verdict s used today position ≡ Ok tt → (blocks_verdict s used ≡ Ok tt) × (position < trade_count s)
place-checked s used today position h = let t = has-trade s used today position h in (t.accepted, t.in-book)

pub book-checked : (s : List ℕ) (used : ℕ) (today : Today) → book_verdict s used today ≡ Ok tt → blocks_verdict s used ≡ Ok tt
book-checked s used today h = (book-accepted s used today h).blocks

pub record Admitted (s : List ℕ) (used : ℕ) (r : List ℕ) : Type 0 where
  pub accepted : blocks_verdict s used ≡ Ok tt
  pub judged : bytes_verdict (curves_of s) r (block_of s (trade_count s)) ≡ Ok tt
  pub roomy : breaks_book_space (trade_count s) used (length s) ≡ false

module _ (s : List ℕ) (used : ℕ) (r : List ℕ) where
  pub record-admitted : blocks_verdict s used ≡ Ok tt → new_record_verdict s used r ≡ Ok tt → Admitted s used r
  unfolding new_record_verdict
  record-admitted ok h =
      let q = or_else-accepted (bytes_verdict (curves_of s) r (block_of s (trade_count s))) _ tt h in
      let t = unless-accepted (breaks_book_space (trade_count s) used (length s)) BookSpace 0 (Ok tt) tt q.1 in
      record { accepted = ok; judged = q.0; roomy = t.0 }

  pub record-taken : Admitted s used r → new_record_verdict s used r ≡ Ok tt
  unfolding new_record_verdict
  record-taken a = rw (a.judged, a.roomy)

  -- on a day
  module _ (day : ℕ) where
    pub append-book : append_verdict s used day r ≡ Ok tt → book_verdict s used (Some day) ≡ Ok tt
    unfolding append_verdict
    append-book h = (or_else-accepted (book_verdict s used (Some day)) _ tt h).0

    pub append-record : append_verdict s used day r ≡ Ok tt → new_record_verdict s used r ≡ Ok tt
    unfolding append_verdict
    append-record h = (or_else-accepted (book_verdict s used (Some day)) _ tt h).1

    pub admitted : append_verdict s used day r ≡ Ok tt → Admitted s used r
    admitted h = record-admitted (book-accepted s used (Some day) (append-book h)).blocks (append-record h)

    pub record-checked : append_verdict s used day r ≡ Ok tt → (blocks_verdict s used ≡ Ok tt) × (new_record_verdict s used r ≡ Ok tt)
    record-checked h = ((admitted h).accepted, append-record h)

    pub admits : book_verdict s used (Some day) ≡ Ok tt → Admitted s used r → append_verdict s used day r ≡ Ok tt
    unfolding append_verdict
    admits ok a = rw (ok, record-taken a)

-- where a new block is needed, there is one to be had
pub record Room (used lent : ℕ) : Type 0 where
  pub few : used / 512 ≡ 128 → ⊥
  pub within : used + 512 ≤ lent

pub room : (trades used lent : ℕ) → breaks_book_space trades used lent ≡ false → trades % 9 ≡ 0 → Room used lent
unfolding breaks_book_space
room trades used lent h e =
    let full = eq-eqb (trades % 9) 0 e in
    let p = neither (eqb (used / 512) 128) (ltb lent (used + 512)) (rw full at h) in
    record { few = eqb-false (used / 512) 128 p.0; within = ltb-false lent (used + 512) p.1 }

-- so there is room in as many bytes as the largest book has
pub roomier : (trades used lent wide : ℕ) → breaks_book_space trades used lent ≡ false → used % 512 ≡ 0 → used ≤ 65536 → 65536 ≤ wide → breaks_book_space trades used wide ≡ false
unfolding breaks_book_space
roomier trades used lent wide h whole most wider = go (ℕ_discrete (trades % 9) 0)
  where
    go : Dec (trades % 9 ≡ 0) → breaks_book_space trades used wide ≡ false
    go (no e) = rw (ne_eqb (trades % 9) 0 e)
    go (yes e) =
        let r = room trades used lent h e in
        let below : used / 512 < 128 = omega (arith, r.few) in
        rw (eq-eqb (trades % 9) 0 e, ne_eqb (used / 512) 128 r.few, le-ltb wide (used + 512) (omega arith))

-- and ground 15 says that there is none
pub no_room : (trades used lent : ℕ) → breaks_book_space trades used lent ≡ true → (trades % 9 ≡ 0) × ((used / 512 ≡ 128) ⊎ (lent < used + 512))
unfolding breaks_book_space
no_room trades used lent h =
    let p = both (eqb (trades % 9) 0) (eqb (used / 512) 128 || ltb lent (used + 512)) h in
    (eqb-true (trades % 9) 0 p.0, go (either (eqb (used / 512) 128) (ltb lent (used + 512)) p.1))
  where
    go : (eqb (used / 512) 128 ≡ true) ⊎ (ltb lent (used + 512) ≡ true) → (used / 512 ≡ 128) ⊎ (lent < used + 512)
    go (inl e) = inl (eqb-true (used / 512) 128 e)
    go (inr e) = inr (ltb-true lent (used + 512) e)

-- which it says wherever there is none
pub space-broken : (trades used lent : ℕ) → trades % 9 ≡ 0 → (used / 512 ≡ 128) ⊎ (lent < used + 512) → breaks_book_space trades used lent ≡ true
unfolding breaks_book_space
space-broken trades used lent full (inl e) = rw (eq-eqb (trades % 9) 0 full, eq-eqb (used / 512) 128 e)
space-broken trades used lent full (inr l) = rw (eq-eqb (trades % 9) 0 full, lt-ltb lent (used + 512) l) (go (eqb (used / 512) 128))
  where
    go : (b : Bool) → (b || true) ≡ true
    go true = refl
    go false = refl

-- ---- of a book that is accepted on the day, what an append answers

module _ (s : List ℕ) (used day : ℕ) (r : List ℕ) (ok : book_verdict s used (Some day) ≡ Ok tt) where
  pub record-refused : (refusal : Refusal) → bytes_verdict (curves_of s) r (block_of s (trade_count s)) ≡ Err refusal → append_verdict s used day r ≡ Err refusal
  unfolding append_verdict new_record_verdict
  record-refused refusal e = rw (ok, e)

  pub space-refused : bytes_verdict (curves_of s) r (block_of s (trade_count s)) ≡ Ok tt → breaks_book_space (trade_count s) used (length s) ≡ true
      → append_verdict s used day r ≡ refused BookSpace 0
  unfolding append_verdict new_record_verdict
  space-refused judged broken = rw (ok, judged, broken)
