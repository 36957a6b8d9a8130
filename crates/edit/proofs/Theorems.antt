-- What a reader of books may count on: records stand where an append and a strike leave them, an edited book is accepted, and an append can be
-- taken back.
use mathlib.Core.Path.{◌≡◌, refl, sym, ◌∙◌, ap}
use mathlib.Core.Bool.{Bool, true, false, cond}
use mathlib.Core.List.{List, [], ◌∷◌, ◌++◌, append_assoc, append-nil}
use Prim.Native.Nat.{ℕ, ◌+◌, ◌-◌, ◌≤◌, ◌<◌}
use native.Mathlib.Decide.{dec_lt}
use native.Mathlib.Omega.{arith}
use borrow.Author.Tests.{lt-ltb, le-ltb}
use lib.Dec.{ltb}
use lib.ListN.{length, get_or, take, drop, replicate, get_or-append}
use lib.Seq.{get_or_at, take_at, drop-append-add}
use Rattle.std.specs.Prelude.{Result, Err, Ok, None, Some}
use Rattle.layout.specs.Bytes.{AreBytes}
use Rattle.ground.specs.declared.Ground.TheVariants.{Position}
use Rattle.ground.specs.declared.Refusal.{Refusal}
use Rattle.ground.specs.Verdicts.{Verdict, refused}
use Rattle.book.specs.Parts.{Parts, curves_of, curve_blocks, trade_count, records, parts_of}
use Rattle.book.specs.Verdict.{bytes_verdict, blocks_verdict}
use Rattle.book.specs.Encode.{book_of}
use Rattle.book.specs.Edited.{without, appended_parts, struck_parts}
use Rattle.book.proofs.Places.{length-records}
use Rattle.book.proofs.Accepted.{sound}
use Rattle.book.proofs.Verdicts.{any-block}
use Rattle.book.proofs.Encoded.{Encodable, Acceptable, trade-count-encoded, record-at-encoded, parts-encoded, encoded-accepted}
use Rattle.acceptance.specs.Verdict.{Today, parts_verdict, book_verdict}
use Rattle.acceptance.proofs.Laws.{by_parts, parts-accepted, book-accepted, accepted-undated}
use Rattle.book.proofs.Canonical.{sound-encodable, sound-acceptable, accepted-encoded, accepted-lent, length-accepted}
use Rattle.edit.specs.Refusals.{block_of, breaks_position, position_verdict, append_verdict}
use Rattle.edit.specs.Edits.{used_appended, used_struck, BookAppended, BookStruck, record_found, found, appended_book, append_answer, appended, struck_book, strike_answer, struck}
use Rattle.edit.proofs.Added.{length-one-more}
use Rattle.edit.proofs.Fewer.{length_without, without-before, without-behind}
use Rattle.edit.proofs.Given.{HasTrade, position-book, has-trade, Admitted, append-book, admitted}
use Rattle.edit.proofs.Lent.{encodable-more, narrower}

-- ---- what a read finds, by the list of records

abbrev pub found_in : List (List ℕ) → ℕ → Result (List ℕ) Refusal
found_in rs i = cond (ltb i (length rs)) (Ok (get_or rs i [])) (refused Position 0)

-- the bytes of parts that make an accepted book, whatever stands behind them
module _ (p : Parts) (rest : List ℕ) (fine : Encodable p.header p.curves p.trades) (good : Acceptable p.curves p.trades) where
  abbrev book : List ℕ
  book = book_of p ++ rest

  abbrev size : ℕ
  size = length (book_of p)

  blocks-encoded : blocks_verdict book size ≡ Ok tt
  blocks-encoded = encoded-accepted p.header p.curves p.trades fine rest good

  parts-of-book : parts_of book ≡ p
  parts-of-book = parts-encoded p.header p.curves p.trades fine rest

  book-encoded : (today : Today) → book_verdict book size today ≡ parts_verdict p today
  book-encoded today = by_parts book size today p blocks-encoded parts-of-book

  position-encoded : (today : Today) → parts_verdict p today ≡ Ok tt → (i : ℕ) (b : Bool) → ltb i (length p.trades) ≡ b
      → position_verdict book size today i ≡ cond b (Ok tt) (refused Position 0)
  unfolding position_verdict breaks_position
  position-encoded today ok i true e = rw (book-encoded today ∙ ok, trade-count-encoded p.header p.curves p.trades fine rest, e)
  position-encoded today ok i false e = rw (book-encoded today ∙ ok, trade-count-encoded p.header p.curves p.trades fine rest, e)

  pub found-encoded : parts_verdict p None ≡ Ok tt → (i : ℕ) → found book size i ≡ found_in p.trades i
  unfolding found
  found-encoded ok i = go (dec_lt i (length p.trades))
    where
      go : Dec (i < length p.trades) → found book size i ≡ found_in p.trades i
      go (yes l) =
          let e = lt-ltb i (length p.trades) l in
          rw (position-encoded None ok i true e, e, record-at-encoded p.header p.curves p.trades fine rest i l)
      go (no l) =
          let e = le-ltb i (length p.trades) (omega arith) in
          rw (position-encoded None ok i false e, e)

  -- struck at a position
  struck-book : (i : ℕ) → struck_book book i ≡ book_of (struck_parts p i)
  unfolding struck_book
  struck-book i = ap (λ (q : Parts). book_of (struck_parts q i)) parts-of-book

  module _ (day : ℕ) (ok : parts_verdict p (Some day) ≡ Ok tt) (i : ℕ) (l : i < length p.trades) where
    strike-answer : strike_answer book size day i ≡ Ok (length (book_of (struck_parts p i)))
    unfolding strike_answer
    strike-answer = rw (position-encoded (Some day) ok i true (lt-ltb i (length p.trades) l), struck-book i)

    struck-start : take (length (book_of (struck_parts p i))) (struck book size day i) ≡ book_of (struck_parts p i)
    unfolding struck
    struck-start =
        let fewer = book_of (struck_parts p i) in
        let zeros : List ℕ = replicate (size - length fewer) 0 in
        let written : struck book size day i ≡ struck_book book i ++ replicate (size - length (struck_book book i)) 0 ++ drop size book =
        rw (position-encoded (Some day) ok i true (lt-ltb i (length p.trades) l)) in
        let laid : struck book size day i ≡ fewer ++ (zeros ++ drop size book) = written ∙ rw (struck-book i) (append_assoc fewer zeros (drop size book)) in
        ap (take (length fewer)) laid ∙ take_at fewer (zeros ++ drop size book) (length fewer) refl

-- ---- a refused call: the bytes and the used length stay, and a read gives zeros

pub refused-append : (s : List ℕ) (used day : ℕ) (r : List ℕ) (refusal : Refusal) → append_verdict s used day r ≡ Err refusal
    → (appended s used day r ≡ s) × (used_appended s used day r ≡ used)
unfolding appended append_answer
refused-append s used day r refusal e = (rw e, rw e)

pub refused-strike : (s : List ℕ) (used day p : ℕ) (refusal : Refusal) → position_verdict s used (Some day) p ≡ Err refusal
    → (struck s used day p ≡ s) × (used_struck s used day p ≡ used)
unfolding struck strike_answer
refused-strike s used day p refusal e = (rw e, rw e)

pub refused-read : (s : List ℕ) (used p : ℕ) (refusal : Refusal) → position_verdict s used None p ≡ Err refusal → record_found (found s used p) ≡ replicate 56 0
unfolding found
refused-read s used p refusal e = rw e

-- ---- the same by lists: a record more, and one fewer

found-last : (rs : List (List ℕ)) (r : List ℕ) → found_in (rs ++ r ∷ []) (length rs) ≡ Ok r
found-last rs r =
    let e = lt-ltb (length rs) (length (rs ++ r ∷ [])) (omega (arith, length-one-more rs r)) in
    rw (e, get_or_at rs r [] [] (length rs) refl)

found-earlier : (rs : List (List ℕ)) (r : List ℕ) (i : ℕ) → i < length rs → found_in (rs ++ r ∷ []) i ≡ found_in rs i
found-earlier rs r i l =
    let e = lt-ltb i (length (rs ++ r ∷ [])) (omega (arith, length-one-more rs r)) in
    rw (e, lt-ltb i (length rs) l, get_or-append rs (r ∷ []) [] i l)

module _ (rs : List (List ℕ)) (p : ℕ) (in_list : p < length rs) where
  found_before : (i : ℕ) → i < p → found_in (without rs p) i ≡ found_in rs i
  found_before i l =
      let e = lt-ltb i (length (without rs p)) (omega (arith, length_without rs p in_list)) in
      let g : i < length rs = omega arith in
      rw (e, lt-ltb i (length rs) g, without-before rs p in_list i l)

  found-behind : (i : ℕ) → p ≤ i → found_in (without rs p) i ≡ found_in rs (i + 1)
  found-behind i l = go (dec_lt (i + 1) (length rs))
    where
      go : Dec (i + 1 < length rs) → found_in (without rs p) i ≡ found_in rs (i + 1)
      go (yes h) =
          let e = lt-ltb i (length (without rs p)) (omega (arith, length_without rs p in_list)) in
          rw (e, lt-ltb (i + 1) (length rs) h, without-behind rs p in_list i l)
      go (no h) =
          let e = le-ltb i (length (without rs p)) (omega (arith, length_without rs p in_list)) in
          rw (e, le-ltb (i + 1) (length rs) (omega arith))

-- ---- an accepted book

module _ (s : List ℕ) (used : ℕ) (bytes : AreBytes s) where
  abbrev now-parts : Parts
  now-parts = parts_of s

  abbrev rs : List (List ℕ)
  rs = records s

  -- a read finds the record of its list
  pub found-accepted : book_verdict s used None ≡ Ok tt → (i : ℕ) → found s used i ≡ found_in (records s) i
  found-accepted h i =
      let ok = (book-accepted s used None h).blocks in
      let b = sound s used ok in
      ap (λ (t : List ℕ). found t used i) (accepted-lent s used bytes ok)
      ∙ ap (λ (n : ℕ). found (book_of now-parts ++ drop used s) n i) (sym (length-accepted s used bytes ok))
      ∙ found-encoded now-parts (drop used s) (sound-encodable s used bytes b) (sound-acceptable s used bytes b) (parts-accepted s used None h) i

  -- ---- append

  module _ (r : List ℕ) (long : length r ≡ 56) where
    abbrev more : Parts
    more = appended_parts now-parts r

    -- a book that takes the record, with it
    module _ (w : Admitted s used r) where
      more-fine : Encodable more.header more.curves more.trades
      more-fine = encodable-more s used bytes w.accepted r long w.roomy

      more-good : Acceptable more.curves more.trades
      more-good = record { curve = held.curve; trade = λ i l k. go i k (dec_lt i (length rs)) (omega (arith, length-one-more rs r)) }
        where
          held : Acceptable (curve_blocks s) rs
          held = sound-acceptable s used bytes (sound s used w.accepted)

          go : (i k : ℕ) → Dec (i < length rs) → i < length rs + 1 → bytes_verdict (curves_of s) (get_or more.trades i []) k ≡ Ok tt
          go i k (yes l) h = rw (get_or-append rs (r ∷ []) [] i l) (held.trade i l k)
          go i k (no l) h = rw (get_or_at rs r [] [] i (omega arith)) (any-block (curves_of s) r (block_of s (trade_count s)) k w.judged)

      pub with-record : (rest : List ℕ) → BookAppended s (appended_book s r ++ rest) r
      unfolding appended_book
      with-record rest = parts-of-book more rest more-fine more-good

      pub with-record-accepted : (rest : List ℕ) → blocks_verdict (appended_book s r ++ rest) (length (appended_book s r)) ≡ Ok tt
      unfolding appended_book
      with-record-accepted rest = blocks-encoded more rest more-fine more-good

    module _ (day : ℕ) (ok : append_verdict s used day r ≡ Ok tt) where
      abbrev given : Admitted s used r
      given = admitted s used r day ok

      abbrev behind : List ℕ
      behind = drop (length (book_of more)) s

      -- what is asked of the book as a whole holds with the record
      more-accepted : (today : Today) → book_verdict s used today ≡ Ok tt → parts_verdict more today ≡ Ok tt
      more-accepted today h = parts-accepted s used today h

      undated : book_verdict s used None ≡ Ok tt
      undated = accepted-undated s used (Some day) (append-book s used r day ok)

      -- what the bytes are, and how many of them are used
      appended-is : appended s used day r ≡ book_of more ++ behind
      unfolding appended appended_book
      appended-is = rw ok

      pub append-used : used_appended s used day r ≡ length (book_of more)
      unfolding append_answer appended_book
      append-used = rw ok

      found-more : (i : ℕ) → found (appended s used day r) (used_appended s used day r) i ≡ found_in more.trades i
      found-more i = rw (appended-is, append-used) (found-encoded more behind (more-fine given) (more-good given) (more-accepted None undated) i)

      -- after an append the last position gives the record
      pub append-read-last : found (appended s used day r) (used_appended s used day r) (trade_count s) ≡ Ok r
      append-read-last =
          ap (found (appended s used day r) (used_appended s used day r)) (sym (length-records s)) ∙ found-more (length rs) ∙ found-last rs r

      -- and every earlier one what it gave before
      pub append-read-earlier : (i : ℕ) → i < trade_count s → found (appended s used day r) (used_appended s used day r) i ≡ found s used i
      append-read-earlier i l =
          found-more i
          ∙ found-earlier rs r i (rw (length-records s) l)
          ∙ sym (found-accepted undated i)

      pub book-appended : BookAppended s (appended s used day r) r
      unfolding appended_book
      book-appended = rw appended-is (with-record given behind)

      -- accepted on every day on which the book was
      pub appended-accepted : (today : Today) → book_verdict s used today ≡ Ok tt → book_verdict (appended s used day r) (used_appended s used day r) today ≡ Ok tt
      appended-accepted today h = rw (appended-is, append-used) (book-encoded more behind (more-fine given) (more-good given) today ∙ more-accepted today h)

      -- struck again, the book is as it was
      taken_back : struck_parts more (length rs) ≡ now-parts
      taken_back = rw (take_at rs (r ∷ []) (length rs) refl, drop-append-add rs (r ∷ []) 1, append-nil rs)

      old-size : length (book_of now-parts) ≡ used
      old-size = length-accepted s used bytes given.accepted

      last-in : length rs < length more.trades
      last-in = omega (arith, length-one-more rs r)

      with-day : parts_verdict more (Some day) ≡ Ok tt
      with-day = more-accepted (Some day) (append-book s used r day ok)

      pub append-strike-answer : strike_answer (appended s used day r) (used_appended s used day r) day (trade_count s) ≡ Ok used
      append-strike-answer =
          rw (appended-is, append-used, ← length-records s)
          (strike-answer more behind (more-fine given) (more-good given) day with-day (length rs) last-in
          ∙ ap (λ (q : Parts). Ok (length (book_of q))) taken_back
          ∙ ap Ok old-size)

      pub append-strike : take used (struck (appended s used day r) (used_appended s used day r) day (trade_count s)) ≡ take used s
      append-strike =
          let back = struck-start more behind (more-fine given) (more-good given) day with-day (length rs) last-in in
          let again : book_of (struck_parts more (length rs)) ≡ book_of now-parts = ap book_of taken_back in
          rw (appended-is, append-used, ← length-records s)
          ((rw (again, old-size) at back) ∙ sym (accepted-encoded s used bytes given.accepted))

    -- an append to an accepted book leaves an accepted book, refused or not
    pub append-accepted : (day : ℕ) (today : Today) → book_verdict s used today ≡ Ok tt → book_verdict (appended s used day r) (used_appended s used day r) today ≡ Ok tt
    append-accepted day today ok = go (append_verdict s used day r) refl
      where
        go : (v : Verdict) → append_verdict s used day r ≡ v → book_verdict (appended s used day r) (used_appended s used day r) today ≡ Ok tt
        go (Ok tt) e = appended-accepted day e today ok
        go (Err refusal) e = let p = refused-append s used day r refusal e in rw (p.0, p.1) ok

  -- ---- strike

  module _ (p : ℕ) where
    abbrev fewer : Parts
    fewer = struck_parts now-parts p

    module _ (day : ℕ) (ok : position_verdict s used (Some day) p ≡ Ok tt) where
      abbrev stands : HasTrade s used p
      stands = has-trade s used (Some day) p ok

      in_list : p < length rs
      in_list = rw (length-records s) stands.in-book

      fewer-fine : Encodable fewer.header fewer.curves fewer.trades
      fewer-fine = narrower s used bytes stands.accepted p stands.in-book

      fewer-good : Acceptable fewer.curves fewer.trades
      fewer-good = record { curve = held.curve; trade = λ i l k. go i k (dec_lt i p) (rw (length_without rs p in_list) at l) }
        where
          held : Acceptable (curve_blocks s) rs
          held = sound-acceptable s used bytes (sound s used stands.accepted)

          go : (i k : ℕ) → Dec (i < p) → i < length rs - 1 → bytes_verdict (curves_of s) (get_or fewer.trades i []) k ≡ Ok tt
          go i k (yes l) h = rw (without-before rs p in_list i l) (held.trade i (omega arith) k)
          go i k (no l) h = rw (without-behind rs p in_list i (omega arith)) (held.trade (i + 1) (omega arith) k)

      abbrev left : List ℕ
      left = replicate (used - length (book_of fewer)) 0 ++ drop used s

      -- what is asked of the book as a whole holds without the record
      fewer-accepted : (today : Today) → book_verdict s used today ≡ Ok tt → parts_verdict fewer today ≡ Ok tt
      fewer-accepted today h = parts-accepted s used today h

      undated-strike : book_verdict s used None ≡ Ok tt
      undated-strike = accepted-undated s used (Some day) (position-book s used (Some day) p ok)

      struck-is : struck s used day p ≡ book_of fewer ++ left
      unfolding struck struck_book
      struck-is = rw ok (append_assoc (book_of fewer) (replicate (used - length (book_of fewer)) 0) (drop used s))

      pub strike-used : used_struck s used day p ≡ length (book_of fewer)
      unfolding strike_answer struck_book
      strike-used = rw ok

      found-fewer : (i : ℕ) → found (struck s used day p) (used_struck s used day p) i ≡ found_in fewer.trades i
      found-fewer i = rw (struck-is, strike-used) (found-encoded fewer left fewer-fine fewer-good (fewer-accepted None undated-strike) i)

      -- after a strike positions before it give what they gave
      pub strike-read-before : (i : ℕ) → i < p → found (struck s used day p) (used_struck s used day p) i ≡ found s used i
      strike-read-before i l = found-fewer i ∙ found_before rs p in_list i l ∙ sym (found-accepted undated-strike i)

      -- and from there on the next one's record, or its refusal
      pub strike-read-behind : (i : ℕ) → p ≤ i → found (struck s used day p) (used_struck s used day p) i ≡ found s used (i + 1)
      strike-read-behind i l = found-fewer i ∙ found-behind rs p in_list i l ∙ sym (found-accepted undated-strike (i + 1))

      pub book-struck : BookStruck s (struck s used day p) p
      book-struck = ap parts_of struck-is ∙ parts-of-book fewer left fewer-fine fewer-good

      struck-accepted : (today : Today) → book_verdict s used today ≡ Ok tt → book_verdict (struck s used day p) (used_struck s used day p) today ≡ Ok tt
      struck-accepted today h = rw (struck-is, strike-used) (book-encoded fewer left fewer-fine fewer-good today ∙ fewer-accepted today h)

    pub strike-accepted : (day : ℕ) (today : Today) → book_verdict s used today ≡ Ok tt → book_verdict (struck s used day p) (used_struck s used day p) today ≡ Ok tt
    strike-accepted day today ok = go (position_verdict s used (Some day) p) refl
      where
        go : (v : Verdict) → position_verdict s used (Some day) p ≡ v → book_verdict (struck s used day p) (used_struck s used day p) today ≡ Ok tt
        go (Ok tt) e = struck-accepted day e today ok
        go (Err refusal) e = let q = refused-strike s used day p refusal e in rw (q.0, q.1) ok
