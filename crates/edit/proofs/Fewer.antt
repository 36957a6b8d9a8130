-- The bytes of an accepted book with a record fewer: the records moved up, the last cut off, the blocks sealed.
use mathlib.Core.Path.{◌≡◌, sym, ◌∙◌, ap}
use mathlib.Core.Logic.{◌⊎◌, inl, inr}
use mathlib.Core.List.{List, [], ◌∷◌, ◌++◌, append_assoc}
use Prim.Native.Nat.{ℕ, ◌+◌, ◌-◌, ◌*◌, ◌/◌, ◌%◌, ◌≤◌, ◌<◌}
use native.Mathlib.Decide.{dec_lt, ℕ_discrete}
use native.Mathlib.Omega.{arith}
use borrow.Author.Tests.{eq-eqb, ne_eqb}
use lib.ListN.{length, get_or, take, drop, replicate, length-append, length-take, length-drop, length-replicate, take-append-drop, get_or-append}
use lib.Seq.{ext_get_or, length-take-le, drop-drop, get_or-take, get_or-drop, get_or-append-add, get_or_at}
use Rattle.std.specs.Prelude.{Ok}
use Rattle.laws.specs.Walk.{run}
use Rattle.laws.proofs.Tables.{Each}
use Rattle.layout.specs.Bytes.{byte_at, part, AreBytes}
use Rattle.layout.proofs.Bytes.{length_part, byte-part, part_same, part-kept, drop-kept, part-part, zeros-at, zeros_of, zeros-part}
use Rattle.book.specs.Parts.{Parts, block_at, record_place, record_in, header_of, curve_count, trade_count, record_at, records, parts_of}
use Rattle.book.specs.Verdict.{blocks_verdict}
use Rattle.book.specs.Encode.{header_block, trade_block, blocks_for, records_of_block, book_of}
use Rattle.book.specs.Edited.{without, struck_parts}
use Rattle.book.proofs.Places.{head-curves, curve-block, record_of}
use Rattle.book.proofs.Accepted.{sound}
use Rattle.book.proofs.TradeBlock.{Holds, sealed-trades}
use Rattle.book.proofs.Encoded.{length-nine, nine-at}
use Rattle.book.proofs.Canonical.{trade-block}
use Rattle.trade_edit.specs.Blocks.{place_of, record_moved, end_of, cut_back, block_sealed}
use Rattle.trade_edit.proofs.StepLaws.{places-apart, length-moves, moves-apart, moves-moved, length-cut_back, end-within, CutRead, cut-read, length-seals, seals-apart, seals-sealed}
use Rattle.edit.specs.Edits.{struck_book}
use Rattle.edit.proofs.Books.{Sized, sized, trades-held, relaid}
use Rattle.edit.proofs.Added.{nine-full, nine-last, header-counted}

-- ---- a list without the element at a position

module _ (rs : List (List ℕ)) (p : ℕ) (in_list : p < length rs) where
  pub length_without : length (without rs p) ≡ length rs - 1
  length_without = simp (length-append, length-take, length-drop) (omega arith)

  pub without-before : (i : ℕ) → i < p → get_or (without rs p) i [] ≡ get_or rs i []
  without-before i l =
      let m : i < length (take p rs) = rw (length-take-le p rs (omega arith)) l in
      get_or-append (take p rs) (drop (p + 1) rs) [] i m ∙ get_or-take p rs i [] l

  pub without-behind : (i : ℕ) → p ≤ i → get_or (without rs p) i [] ≡ get_or rs (i + 1) []
  without-behind i l =
      let e : i ≡ length (take p rs) + (i - p) = omega (arith, length-take-le p rs (omega arith)) in
      let g : p + 1 + (i - p) ≡ i + 1 = omega arith in
      ap (λ (k : ℕ). get_or (without rs p) k []) e
      ∙ (get_or-append-add (take p rs) (drop (p + 1) rs) (i - p) [] ∙ get_or-drop (p + 1) rs (i - p) [] ∙ ap (λ (k : ℕ). get_or rs k []) g)

  pub each-without : Each 56 rs → Each 56 (without rs p)
  each-without each i l = go (dec_lt i p)
    where
      go : Dec (i < p) → length (get_or (without rs p) i []) ≡ 56
      go (yes b) = rw (without-before i b) (each i (omega arith))
      go (no b) = rw (without-behind i (omega arith)) (each (i + 1) (omega (arith, length_without)))

  -- the blocks before the position's
  nine-before : (j : ℕ) → j * 9 + 9 ≤ p → records_of_block (without rs p) j ≡ records_of_block rs j
  nine-before j h =
      let m = length-nine (without rs p) j in
      let n = length-nine rs j in
      let k = length_without in
      ext_get_or [] (records_of_block (without rs p) j) (records_of_block rs j) (omega arith)
      (λ i l. nine-at (without rs p) j i (omega arith) ∙ without-before (j * 9 + i) (omega arith) ∙ sym (nine-at rs j i (omega arith)))

module _ (s : List ℕ) (used : ℕ) (bytes : AreBytes s) (ok : blocks_verdict s used ≡ Ok tt) (p : ℕ) (in-book : p < trade_count s) where
  abbrev rs : List (List ℕ)
  rs = records s

  abbrev c : ℕ
  c = curve_count s

  abbrev left : ℕ
  left = trade_count s - 1

  abbrev fewer : List (List ℕ)
  fewer = without rs p

  z : Sized s used
  z = sized s used bytes ok

  in_list : p < length rs
  in_list = rw z.trade-count in-book

  length-fewer : length fewer ≡ left
  length-fewer = length_without rs p in_list ∙ rw z.trade-count

  -- the last record's block
  abbrev u : ℕ
  u = 1 + c + left / 9

  pub last_block : used ≡ u * 512 + 512
  last_block = omega (arith, z.size)

  fits : u * 512 + 512 ≤ length s
  fits = omega (arith, last_block, z.lent)

  -- ---- the records moved up: the last stands twice

  abbrev last : List ℕ
  last = get_or rs left []

  abbrev moved : List ℕ
  moved = run (record_moved c) p (left - p) s

  as_long : length moved ≡ length s
  as_long = length-moves c p (left - p) s

  moved_apart : (m : ℕ) → ((q : ℕ) → p ≤ q → q < left → (m < place_of c q) ⊎ (place_of c q + 56 ≤ m)) → byte_at moved m ≡ byte_at s m
  moved_apart m apart = moves-apart c m p (left - p) s (λ q l h. apart q l (omega arith))

  at_place : (q : ℕ) → q ≤ left → part s (place_of c q) 56 ≡ get_or rs q []
  unfolding record_at
  at_place q l =
      sym (record_of s q (omega arith) ∙ part-part s ((1 + c + q / 9) * 512) 512 (record_place (q % 9)) 56 (omega (arith, fits)) (omega arith))

  record-moved : (q : ℕ) → q ≤ left → part moved (place_of c q) 56 ≡ get_or (fewer ++ last ∷ []) q []
  record-moved q l = go (dec_lt q p) (dec_lt q left)
    where
      stays : (q < p) ⊎ (left ≤ q) → part moved (place_of c q) 56 ≡ get_or rs q []
      stays out = part-kept moved s (place_of c q) 56 as_long (λ m b e. moved_apart m (λ i j h. side m b e i j h out)) ∙ at_place q l
        where
          side : (m : ℕ) → place_of c q ≤ m → m < place_of c q + 56 → (i : ℕ) → p ≤ i → i < left → (q < p) ⊎ (left ≤ q) → (m < place_of c i) ⊎ (place_of c i + 56 ≤ m)
          side m b e i j h (inl d) = inl (omega (arith, places-apart c q i (omega arith)))
          side m b e i j h (inr d) = inr (omega (arith, places-apart c i q (omega arith)))

      go : Dec (q < p) → Dec (q < left) → part moved (place_of c q) 56 ≡ get_or (fewer ++ last ∷ []) q []
      go (yes h) d = stays (inl h) ∙ sym (get_or-append fewer (last ∷ []) [] q (rw length-fewer (omega arith)) ∙ without-before rs p in_list q h)
      go (no h) (yes d) =
          part_same moved (place_of c q) s (place_of c (q + 1)) 56 (rw as_long (omega (arith, fits))) (omega (arith, fits))
          (λ o b. moves-moved c o q p (left - p) s b (omega (arith, fits)) (omega arith) (omega arith))
          ∙ at_place (q + 1) (omega arith)
          ∙ sym (get_or-append fewer (last ∷ []) [] q (rw length-fewer d) ∙ without-behind rs p in_list q (omega arith))
      go (no h) (no d) =
          let e : q ≡ left = omega arith in
          stays (inr (omega arith)) ∙ rw e (sym (get_or_at fewer last [] [] left length-fewer))

  module _ (j : ℕ) (l : j ≤ left / 9) where
    abbrev k : ℕ
    k = 1 + c + j

    old : Holds (block_at s k) k (records_of_block rs j)
    old = trades-held s used bytes ok j (omega (arith, z.trade-blocks))

    length-old : length (records_of_block (fewer ++ last ∷ []) j) ≡ length (records_of_block rs j)
    length-old = omega (arith, length-nine (fewer ++ last ∷ []) j, length-nine rs j, length-append fewer (last ∷ []), length-fewer, z.trade-count)

    -- bytes before and behind a block's records
    between : (m : ℕ) → (m < 4) ⊎ (record_place (length (records_of_block rs j)) ≤ m) → m < 512 → byte_at (block_at moved k) m ≡ byte_at (block_at s k) m
    between m out b =
        byte-part moved (k * 512) 512 m b ∙ moved_apart (k * 512 + m) (λ q h e. side q e (dec_lt (q / 9) j) (dec_lt j (q / 9)) out) ∙ sym (byte-part s (k * 512) 512 m b)
      where
        side : (q : ℕ) → q < left → Dec (q / 9 < j) → Dec (j < q / 9) → (m < 4) ⊎ (record_place (length (records_of_block rs j)) ≤ m)
            → (k * 512 + m < place_of c q) ⊎ (place_of c q + 56 ≤ k * 512 + m)
        side q e (yes d) f g = inr (omega arith)
        side q e (no d) (yes f) g = inl (omega arith)
        side q e (no d) (no f) (inl g) = inl (omega arith)
        side q e (no d) (no f) (inr g) =
            let more : q % 9 + 1 ≤ length (records_of_block rs j) = omega (arith, length-nine rs j, z.trade-count) in
            inr (omega arith)

    at-record : (i : ℕ) → i < length (records_of_block rs j) → record_in (block_at moved k) i ≡ get_or (records_of_block (fewer ++ last ∷ []) j) i []
    at-record i b =
        let n = length-nine rs j in
        let e : k * 512 + record_place i ≡ place_of c (j * 9 + i) = omega arith in
        part-part moved (k * 512) 512 (record_place i) 56 (rw as_long (omega (arith, fits))) (omega arith)
        ∙ ap (λ (x : ℕ). part moved x 56) e
        ∙ record-moved (j * 9 + i) (omega (arith, z.trade-count))
        ∙ sym (nine-at (fewer ++ last ∷ []) j i (omega arith))

    moved_holds : Holds (block_at moved k) k (records_of_block (fewer ++ last ∷ []) j)
    moved_holds =
        let long : length (block_at moved k) ≡ 512 = length_part moved (k * 512) 512 (rw as_long (omega (arith, fits))) in
        record {
          long = long;
          kind = between 0 (inl (omega arith)) (omega arith) ∙ old.kind;
          count = between 1 (inl (omega arith)) (omega arith) ∙ old.count ∙ sym length-old;
          numbered = part-kept (block_at moved k) (block_at s k) 2 2 (long ∙ sym old.long) (λ m b e. between m (inl (omega arith)) (omega arith)) ∙ old.numbered;
          each = λ i b. at-record i (rw length-old at b);
          behind =
              rw length-old
              (zeros_of (block_at moved k) (record_place (length (records_of_block rs j))) 508
              (λ m b d. between m (inr b) (omega arith) ∙ zeros-at (block_at s k) (record_place (length (records_of_block rs j))) 508 old.behind m b d));
        }

  first-kept : block_at moved 0 ≡ block_at s 0
  first-kept = part-kept moved s 0 512 as_long (λ m b e. moved_apart m (λ q l h. inl (omega arith)))

  pub curves-same : curve_count moved ≡ c
  curves-same = sym (head-curves moved) ∙ ap curve_count first-kept ∙ head-curves s

  -- ---- the last cut off

  abbrev cut : List ℕ
  cut = cut_back moved used left

  length_cut : length cut ≡ length s
  length_cut = length-cut_back moved used left ∙ as_long

  read : CutRead moved used left c
  read = cut-read moved used left c curves-same last_block (rw as_long z.lent)

  -- bytes that are in no block with a record moved
  outside : (m : ℕ) → 512 ≤ m → (m < (1 + c + p / 9) * 512) ⊎ (used ≤ m) → byte_at cut m ≡ byte_at s m
  outside m h (inl l) =
      read.apart m h (inl (omega (arith, (end-within c left).0))) (λ e. omega (arith, last_block)) ∙ moved_apart m (λ q b e. inl (omega arith))
  outside m h (inr l) =
      read.apart m h (inr l) (λ e. omega (arith, last_block)) ∙ moved_apart m (λ q b e. inr (omega (arith, last_block)))

  -- a full block
  full-holds : (j : ℕ) → j * 9 + 9 ≤ left → Holds (block_at cut (1 + c + j)) (1 + c + j) (records_of_block fewer j)
  full-holds j h =
      let k = 1 + c + j in
      let same : block_at cut k ≡ block_at moved k =
      part-kept cut moved (k * 512) 512 (length-cut_back moved used left)
      (λ m b l. read.apart m (omega arith) (inl (omega (arith, (end-within c left).0))) (λ e. omega (arith, last_block))) in
      rw (same, ← nine-full fewer last j (rw length-fewer h)) (moved_holds j (omega arith))

  -- the last, where others are left in it
  module _ (some : left % 9 ≡ 0 → ⊥) where
    end : end_of c left ≡ place_of c left
    end = rw (ne_eqb (left % 9) 0 some)

    long : length (block_at cut u) ≡ 512
    long = length_part cut (u * 512) 512 (rw length_cut fits)

    before-end : (m : ℕ) → m < record_place (left % 9) → (m ≡ 1 → ⊥) → byte_at (block_at cut u) m ≡ byte_at (block_at moved u) m
    before-end m l e =
        byte-part cut (u * 512) 512 m (omega arith)
        ∙ read.apart (u * 512 + m) (omega arith) (inl (omega (arith, end))) (λ y. omega (arith, last_block))
        ∙ sym (byte-part moved (u * 512) 512 m (omega arith))

    last-holds : Holds (block_at cut u) u (records_of_block fewer (left / 9))
    last-holds =
        let n : length (records_of_block fewer (left / 9)) ≡ left % 9 = omega (arith, length-nine fewer (left / 9), length-fewer) in
        let h = rw (nine-last fewer last (left / 9) (rw length-fewer (omega arith)) (rw length-fewer (omega arith))) at (moved_holds (left / 9) (omega arith)) in
        let at : u * 512 + 1 ≡ used - 511 = omega (arith, last_block) in
        let before : (m w : ℕ) → 2 ≤ m → m + w ≤ record_place (left % 9) → part (block_at cut u) m w ≡ part (block_at moved u) m w =
        λ m w b e. part-kept (block_at cut u) (block_at moved u) m w (long ∙ sym h.long) (λ i f g. before-end i (omega arith) (λ y. omega arith)) in
        record {
          long = long;
          kind = before-end 0 (omega arith) (λ e. omega arith) ∙ h.kind;
          count = byte-part cut (u * 512) 512 1 (omega arith) ∙ ap (byte_at cut) at ∙ read.count ∙ sym n;
          numbered = before 2 2 (omega arith) (omega arith) ∙ h.numbered;
          each = λ i b.
              before (record_place i) 56 (omega arith) (omega arith)
              ∙ h.each i (omega (arith, length-append (records_of_block fewer (left / 9)) (last ∷ [])))
              ∙ get_or-append (records_of_block fewer (left / 9)) (last ∷ []) [] i b;
          behind =
              zeros_of (block_at cut u) (record_place (length (records_of_block fewer (left / 9)))) 508
              (λ m b d.
              byte-part cut (u * 512) 512 m (omega arith)
              ∙ read.blank (u * 512 + m) (omega (arith, end)) (omega (arith, last_block)) (λ e. omega (arith, last_block)));
        }

  cut-trades : (j : ℕ) → j < blocks_for left → Holds (block_at cut (1 + c + j)) (1 + c + j) (records_of_block fewer j)
  cut-trades j l = go (dec_lt j (left / 9))
    where
      go : Dec (j < left / 9) → Holds (block_at cut (1 + c + j)) (1 + c + j) (records_of_block fewer j)
      go (yes h) = full-holds j (omega arith)
      go (no h) = let e : j ≡ left / 9 = omega arith in rw e (last-holds (λ y. omega arith))

  -- the bytes of the block that goes, where none is left in it
  gone : (m : ℕ) → (1 + c + blocks_for left) * 512 ≤ m → m < used → byte_at cut m ≡ 0
  gone m h l = go (ℕ_discrete m (used - 511))
    where
      none : left % 9 ≡ 0
      none = omega (arith, last_block)

      go : Dec (m ≡ used - 511) → byte_at cut m ≡ 0
      go (yes e) = rw e (read.count ∙ none)
      go (no e) = read.blank m (rw (eq-eqb (left % 9) 0 none) (omega (arith, last_block))) l e

  -- ---- the blocks sealed

  abbrev from : ℕ
  from = 1 + c + p / 9

  abbrev to : ℕ
  to = 1 + c + blocks_for left

  abbrev done : List ℕ
  done = run block_sealed from (to - from) cut

  length-done : length done ≡ length s
  length-done = length-seals from (to - from) cut ∙ length_cut

  seal-apart : (m : ℕ) → (m < from * 512) ⊎ (to * 512 ≤ m) → byte_at done m ≡ byte_at cut m
  seal-apart m h = let upto : from + (to - from) ≡ to = omega arith in seals-apart m from (to - from) cut (rw upto h)

  block-before : (j : ℕ) → 1 ≤ j → j < from → block_at done j ≡ block_at s j
  block-before j h l =
      part-kept done s (j * 512) 512 length-done (λ m b e. seal-apart m (inl (omega arith)) ∙ outside m (omega arith) (inl (omega arith)))

  trade-sealed : (j : ℕ) → j < blocks_for left → block_at done (1 + c + j) ≡ trade_block (1 + c + j) (records_of_block fewer j)
  trade-sealed j l = go (dec_lt j (p / 9))
    where
      go : Dec (j < p / 9) → block_at done (1 + c + j) ≡ trade_block (1 + c + j) (records_of_block fewer j)
      go (yes h) =
          block-before (1 + c + j) (omega arith) (omega arith)
          ∙ sym (trade-block s used bytes (sound s used ok) j (omega (arith, z.trade-blocks)))
          ∙ rw (nine-before rs p in_list j (omega arith))
      go (no h) =
          seals-sealed (1 + c + j) from (to - from) cut (rw length_cut (omega (arith, fits))) (omega arith) (omega arith)
          ∙ sealed-trades (block_at cut (1 + c + j)) (1 + c + j) (records_of_block fewer j) (omega (arith, length-nine fewer j)) (cut-trades j l)

  -- from the end of the book on
  abbrev rest : List ℕ
  rest = replicate (used - to * 512) 0 ++ drop used s

  behind : drop (to * 512) done ≡ rest
  behind =
      let n = to * 512 in
      let most : n + (used - n) ≡ used = omega (arith, last_block) in
      let zero : part done n (used - n) ≡ replicate (used - n) 0 =
      zeros-part done n (used - n) (rw (most, length-done) z.lent) (zeros_of done n (n + (used - n)) (λ m h l. seal-apart m (inr h) ∙ gone m h (omega arith))) in
      sym (take-append-drop (used - n) (drop n done))
      ∙ rw (zero, drop-drop (used - n) n done, most, drop-kept done s used length-done (λ m h. seal-apart m (inr (omega arith)) ∙ outside m (omega (arith, last_block)) (inr h)))

  abbrev left-parts : Parts
  left-parts = struck_parts (parts_of s) p

  pub struck-lent : (to * 512 ≡ length (struck_book s p)) × (done ≡ struck_book s p ++ replicate (used - length (struck_book s p)) 0 ++ drop used s)
  unfolding struck_book
  struck-lent =
      let head : block_at done 0 ≡ header_block (header_of s) c (blocks_for left) =
      part-kept done cut 0 512 (length-seals from (to - from) cut) (λ m b l. seal-apart m (inl (omega arith)))
      ∙ read.header
      ∙ rw first-kept (header-counted s used bytes ok (blocks_for left) (omega (arith, z.limit, last_block))) in
      let all : done ≡ book_of left-parts ++ rest =
      relaid s fewer done rest (rw length-fewer head) (λ k l. block-before (1 + k) (omega arith) (omega arith) ∙ sym (curve-block s k l)) (rw length-fewer trade-sealed) (rw length-fewer behind) in
      let size : to * 512 ≡ length (book_of left-parts) =
      omega (arith, ap length all, length-done, last_block, z.lent, length-append (book_of left-parts) rest, length-append (replicate (used - to * 512) 0) (drop used s), length-replicate {A = ℕ} (used - to * 512) 0, length-drop used s) in
      (size, all ∙ rw size (sym (append_assoc (book_of left-parts) (replicate (used - length (book_of left-parts)) 0) (drop used s))))
