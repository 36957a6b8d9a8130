-- The parts of an encoding are those that went in, and it is accepted where they are.
use mathlib.Core.Path.{◌≡◌, refl, sym, ap, ◌∙◌}
use mathlib.Core.List.{List, [], ◌∷◌, ◌++◌, flatten}
use Prim.Native.Nat.{ℕ, zero, suc, ◌+◌, ◌-◌, ◌*◌, ◌/◌, ◌%◌, ◌≤◌, ◌<◌, min}
use native.Mathlib.Nat.{zero-add}
use native.Mathlib.Decide.{ℕ_discrete, dec_le}
use native.Mathlib.Omega.{arith}
use borrow.Author.Tests.{eqb-false}
use lib.Dec.{eqb}
use lib.ListN.{length, take, drop, get_or, length-append, length-take, length-drop, get_or-append}
use lib.Seq.{get_or-append-add, get_or-take, get_or-drop}
use Rattle.std.specs.Prelude.{Ok}
use Rattle.laws.specs.Walk.{table}
use Rattle.laws.proofs.Walk.{length-table, get_d-table}
use Rattle.laws.proofs.Tables.{Each, length-flatten, part-flatten, flatten-parts, table_same, table_of, table-by}
use Rattle.curve_block.specs.Verdict.{curve_verdict}
use Rattle.book.specs.Parts.{Header, block_at, header_of, curve_count, trade_blocks, curve_blocks, curves_in, curves_of, trade_count, record_at, records, parts_of}
use Rattle.book.specs.Verdict.{bytes_verdict, block_verdict, blocks_verdict}
use Rattle.book.specs.Encode.{header_block, trade_block, blocks_for, records_of_block, trade_blocks_of, book_blocks, encode}
use Rattle.book.proofs.First.{first-of}
use Rattle.book.proofs.Sound.{length-sound}
use Rattle.book.proofs.Places.{head-fields, head-curves, head-trades, no-trades, last-trades}
use Rattle.book.proofs.Verdicts.{TradesSound, accepted-header, accepted-trades, first_block, curve-place, trade-place, verdict-blocks}
use Rattle.book.proofs.HeaderBlock.{HeaderFits, length-header, header_read, header-curves, header-trades, header-breaks-nothing}
use Rattle.book.proofs.TradeBlock.{length-trades, count-trades, record-trades, trades-break-nothing}

-- what a book can be made of: a curve block is 512 bytes, a record 56, and a book at most 128 blocks
pub record Encodable (header : Header) (cs rs : List (List ℕ)) : Type 0 where
  pub fits : HeaderFits header
  pub least : 1 ≤ length cs
  pub most : length cs ≤ 8
  pub within : 1 + length cs + blocks_for (length rs) ≤ 128
  pub each-curve : Each 512 cs
  pub each-record : Each 56 rs

-- and what it must be made of: curve blocks and records that are accepted, a record in whatever block
pub record Acceptable (cs rs : List (List ℕ)) : Type 0 where
  pub curve : (k : ℕ) → k < length cs → curve_verdict (get_or cs k []) (1 + k) ≡ Ok tt
  pub trade : (i : ℕ) → i < length rs → (block : ℕ) → bytes_verdict (curves_in cs) (get_or rs i []) block ≡ Ok tt

-- ---- nine records to a block

module _ (rs : List (List ℕ)) (j : ℕ) where
  pub length-nine : length (records_of_block rs j) ≡ min 9 (length rs - j * 9)
  length-nine = simp (length-take, length-drop)

  pub nine-at : (i : ℕ) → i < 9 → get_or (records_of_block rs j) i [] ≡ get_or rs (j * 9 + i) []
  nine-at i l = get_or-take 9 (drop (j * 9) rs) i [] l ∙ get_or-drop (j * 9) rs i []

  pub nine-each : Each 56 rs → Each 56 (records_of_block rs j)
  nine-each each i l = let n = length-nine in rw (nine-at i (omega arith)) (each (j * 9 + i) (omega arith))

-- ---- the blocks

-- the header, a curve's block, a block of trades: there is no other
pub each-block : (c t : ℕ) (P : ℕ → Type 0) → P 0 → ((k : ℕ) → k < c → P (1 + k)) → ((j : ℕ) → j < t → P (1 + c + j)) → (k : ℕ) → k < 1 + c + t → P k
each-block c t P head curve trade zero l = head
each-block c t P head curve trade (suc k) l = go (dec_le c k)
  where
    go : Dec (c ≤ k) → P (suc k)
    go (yes h) = let e : suc k ≡ 1 + c + (k - c) = omega arith in rw e (trade (k - c) (omega arith))
    go (no h) = let e : suc k ≡ 1 + k = omega arith in rw e (curve k (omega arith))

-- s begins with the blocks of these parts
pub record LaidOut (header : Header) (cs rs : List (List ℕ)) (s : List ℕ) : Type 0 where
  pub head : block_at s 0 ≡ header_block header (length cs) (blocks_for (length rs))
  pub curve : (k : ℕ) → k < length cs → block_at s (1 + k) ≡ get_or cs k []
  pub trade : (j : ℕ) → j < blocks_for (length rs) → block_at s (1 + length cs + j) ≡ trade_block (1 + length cs + j) (records_of_block rs j)

module _ (header : Header) (cs rs : List (List ℕ)) where
  abbrev head : List ℕ
  head = header_block header (length cs) (blocks_for (length rs))

  abbrev trade : ℕ → List ℕ
  trade j = trade_block (1 + length cs + j) (records_of_block rs j)

  length-tail : length (trade_blocks_of (1 + length cs) rs) ≡ blocks_for (length rs)
  unfolding trade_blocks_of
  length-tail = length-table trade 0 (blocks_for (length rs))

  pub length-blocks : length (book_blocks header cs rs) ≡ 1 + length cs + blocks_for (length rs)
  unfolding book_blocks
  length-blocks = omega (arith, length-append (head ∷ cs) (trade_blocks_of (1 + length cs) rs), length-tail)

  pub block-header : get_or (book_blocks header cs rs) 0 [] ≡ head
  unfolding book_blocks
  block-header = refl

  pub block-curve : (k : ℕ) → k < length cs → get_or (book_blocks header cs rs) (1 + k) [] ≡ get_or cs k []
  unfolding book_blocks
  block-curve k l =
      let e : 1 + k ≡ suc k = omega arith in
      rw e (get_or-append (head ∷ cs) (trade_blocks_of (1 + length cs) rs) [] (suc k) (omega arith))

  pub block-trade : (j : ℕ) → j < blocks_for (length rs) → get_or (book_blocks header cs rs) (1 + length cs + j) [] ≡ trade j
  unfolding book_blocks trade_blocks_of
  block-trade j l =
      let e : 1 + length cs + j ≡ length (head ∷ cs) + j = omega arith in
      ap (λ (n : ℕ). get_or (book_blocks header cs rs) n []) e
      ∙ (get_or-append-add (head ∷ cs) (table trade 0 (blocks_for (length rs))) j [] ∙ get_d-table trade 0 (blocks_for (length rs)) j [] l ∙ ap trade (zero-add j))

  -- bytes that begin with those blocks begin with the encoding
  pub laid-encoded : (s : List ℕ) → LaidOut header cs rs s → take ((1 + length cs + blocks_for (length rs)) * 512) s ≡ encode header cs rs
  unfolding encode
  laid-encoded s laid =
      let blocks : ℕ → List ℕ = λ k. take 512 (drop (0 + k * 512) s) in
      let same = each-block (length cs) (blocks_for (length rs)) (λ k. get_or (book_blocks header cs rs) k [] ≡ block_at s k)
      (block-header ∙ sym laid.head)
      (λ k l. block-curve k l ∙ sym (laid.curve k l))
      (λ j l. block-trade j l ∙ sym (laid.trade j l)) in
      sym (ap flatten (table-by blocks [] (1 + length cs + blocks_for (length rs)) (book_blocks header cs rs) length-blocks (λ k l. rw zero-add (same k l))) ∙ flatten-parts 512 s 0 (1 + length cs + blocks_for (length rs)))

module _ (header : Header) (cs rs : List (List ℕ)) (fine : Encodable header cs rs) where
  few : (j : ℕ) → length (records_of_block rs j) ≤ 9
  few j = omega (arith, length-nine rs j)

  pub blocks-each : Each 512 (book_blocks header cs rs)
  blocks-each k l =
      each-block (length cs) (blocks_for (length rs)) (λ k. length (get_or (book_blocks header cs rs) k []) ≡ 512)
      (rw (block-header header cs rs) (length-header header (length cs) (blocks_for (length rs))))
      (λ k b. rw (block-curve header cs rs k b) (fine.each-curve k b))
      (λ j b. rw (block-trade header cs rs j b) (length-trades (1 + length cs + j) (records_of_block rs j) (few j) (nine-each rs j fine.each-record)))
      k (rw (length-blocks header cs rs) at l)

  pub length-encode : length (encode header cs rs) ≡ (1 + length cs + blocks_for (length rs)) * 512
  unfolding encode
  length-encode = length-flatten 512 (book_blocks header cs rs) blocks-each ∙ rw (length-blocks header cs rs)

  -- ---- the parts, whatever stands behind the book

  module _ (rest : List ℕ) where
    abbrev s : List ℕ
    s = encode header cs rs ++ rest

    block-at : (k : ℕ) → k < 1 + length cs + blocks_for (length rs) → block_at s k ≡ get_or (book_blocks header cs rs) k []
    unfolding encode
    block-at k l = part-flatten 512 (book_blocks header cs rs) rest blocks-each k (rw (length-blocks header cs rs) l)

    at-header : block_at s 0 ≡ head header cs rs
    at-header = block-at 0 (omega arith) ∙ block-header header cs rs

    at-curve : (k : ℕ) → k < length cs → block_at s (1 + k) ≡ get_or cs k []
    at-curve k l = block-at (1 + k) (omega arith) ∙ block-curve header cs rs k l

    at-trade : (j : ℕ) → j < blocks_for (length rs) → block_at s (1 + length cs + j) ≡ trade header cs rs j
    at-trade j l = block-at (1 + length cs + j) (omega arith) ∙ block-trade header cs rs j l

    pub header-encoded : header_of s ≡ header
    header-encoded = sym (head-fields s) ∙ rw at-header (header_read header (length cs) (blocks_for (length rs)) fine.fits)

    pub curve-count-encoded : curve_count s ≡ length cs
    curve-count-encoded = sym (head-curves s) ∙ rw at-header (header-curves header (length cs) (blocks_for (length rs)) (omega (arith, fine.most)))

    pub trade-blocks-encoded : trade_blocks s ≡ blocks_for (length rs)
    trade-blocks-encoded = sym (head-trades s) ∙ rw at-header (header-trades header (length cs) (blocks_for (length rs)) (omega (arith, fine.within)))

    pub curves-encoded : curve_blocks s ≡ cs
    unfolding curve_blocks
    curves-encoded =
        rw curve-count-encoded
        (table_same (block_at s) (λ (k : ℕ). get_or cs k []) 1 0 (length cs) (λ k l. at-curve k l ∙ ap (λ (n : ℕ). get_or cs n []) (sym (zero-add k)))
        ∙ table_of cs [])

    pub curves-of-encoded : curves_of s ≡ curves_in cs
    curves-of-encoded = ap curves_in curves-encoded

    pub trade-count-encoded : trade_count s ≡ length rs
    trade-count-encoded = go (ℕ_discrete (blocks_for (length rs)) 0)
      where
        go : Dec (blocks_for (length rs) ≡ 0) → trade_count s ≡ length rs
        go (yes e) = let z : 0 ≡ length rs = omega arith in no-trades s (trade-blocks-encoded ∙ e) ∙ z
        go (no e) =
            let t = blocks_for (length rs) - 1 in
            let n = length-nine rs t in
            let some : 0 < trade_blocks s = rw trade-blocks-encoded (omega arith) in
            last-trades s some
            ∙ rw (
              trade-blocks-encoded,
              curve-count-encoded,
              at-trade t (omega arith),
              count-trades (1 + length cs + t) (records_of_block rs t) (few t) (nine-each rs t fine.each-record),
            )
            (omega arith)

    pub record-at-encoded : (i : ℕ) → i < length rs → record_at s i ≡ get_or rs i []
    unfolding record_at
    record-at-encoded i l =
        let n = length-nine rs (i / 9) in
        let e : i / 9 * 9 + i % 9 ≡ i = omega arith in
        rw (curve-count-encoded, at-trade (i / 9) (omega arith))
        (record-trades (1 + length cs + i / 9) (records_of_block rs (i / 9)) (few (i / 9)) (nine-each rs (i / 9) fine.each-record) (i % 9) (omega arith)
        ∙ nine-at rs (i / 9) (i % 9) (omega arith)
        ∙ rw e)

    pub records-encoded : records s ≡ rs
    unfolding records
    records-encoded =
        rw trade-count-encoded
        (table_same (record_at s) (λ (i : ℕ). get_or rs i []) 0 0 (length rs)
        (λ i l. let e : 0 + i ≡ i = zero-add i in rw e (record-at-encoded i l))
        ∙ table_of rs [])

    pub parts-encoded : parts_of s ≡ record { header = header; curves = cs; trades = rs }
    parts-encoded = rw (header-encoded, curves-encoded, records-encoded)

    -- ---- the verdict

    module _ (good : Acceptable cs rs) where
      abbrev total : ℕ
      total = 1 + length cs + blocks_for (length rs)

      trade-sound : (j : ℕ) → j < blocks_for (length rs)
          → TradesSound (curves_in cs) (trade header cs rs j) (1 + length cs + j) (eqb (1 + length cs + j + 1) total)
      trade-sound j l =
          let n = length-nine rs j in
          trades-break-nothing (1 + length cs + j) (records_of_block rs j) (few j) (nine-each rs j fine.each-record) (curves_in cs) (eqb (1 + length cs + j + 1) total)
          (omega (arith, fine.within))
          (record {
            some = omega arith;
            most = few j;
            full = λ e. let m : 1 + length cs + j + 1 ≡ total → ⊥ = eqb-false (1 + length cs + j + 1) total e in omega arith;
          })
          (λ i b. rw (nine-at rs j i (omega arith)) (good.trade (j * 9 + i) (omega arith) (1 + length cs + j)))

      block-accepted : (k : ℕ) → k < total → block_verdict s total k ≡ Ok tt
      block-accepted =
          let c = curve-count-encoded in
          each-block (length cs) (blocks_for (length rs)) (λ k. block_verdict s total k ≡ Ok tt)
          (first_block s total
          ∙ rw at-header
          (accepted-header _ _ (header-breaks-nothing header (length cs) (blocks_for (length rs)) fine.least fine.most (omega (arith, fine.within)))))
          (λ k l. curve-place s total (1 + k) (omega arith) (omega arith) ∙ rw (at-curve k l) (good.curve k l))
          (λ j l.
          trade-place s total (1 + length cs + j) (omega arith) (omega arith)
          ∙ rw (curves-of-encoded, at-trade j l) (accepted-trades _ _ _ _ (trade-sound j l)))

      -- an encoding of curve blocks and records that are accepted is accepted
      pub encoded-accepted : blocks_verdict s (length (encode header cs rs)) ≡ Ok tt
      encoded-accepted =
          let n = length-encode in
          let m = length-append (encode header cs rs) rest in
          let e : length (encode header cs rs) / 512 ≡ total = omega arith in
          let b = fine.within in
          verdict-blocks s (length (encode header cs rs)) (length-sound (length (encode header cs rs)) (length s) (record {
            some = omega arith;
            whole = omega arith;
            most = omega arith;
            within = omega arith;
          }))
          ∙ rw e (first-of (block_verdict s total) 0 total (λ k l h. block-accepted k (omega arith)))
