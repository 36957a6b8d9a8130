-- A book is canonical: an accepted one is the encoding of its parts.
use mathlib.Core.Path.{◌≡◌, sym, ap, ◌∙◌}
use mathlib.Core.List.{List, ◌++◌}
use Prim.Native.Nat.{ℕ, ◌+◌, ◌*◌, ◌/◌, ◌%◌, ◌<◌}
use native.Mathlib.Omega.{arith}
use lib.ListN.{length, take, drop, length-take, take-append-drop}
use Rattle.std.specs.Prelude.{Ok}
use Rattle.laws.proofs.Tables.{table_same, table-part}
use Rattle.layout.specs.Bytes.{AreBytes}
use Rattle.layout.proofs.Bytes.{bytes-part}
use Rattle.book.specs.Parts.{block_at, header_of, curve_count, trade_blocks, curve_blocks, curves_of, record_count, record_in, trade_count, record_at, records}
use Rattle.book.specs.Verdict.{blocks_verdict}
use Rattle.book.specs.Encode.{header_block, trade_block, blocks_for, records_of_block, encode}
use Rattle.book.proofs.Places.{head-fields, head-curves, head-trades, length-curve_blocks, curve-block, length-records, record_of}
use Rattle.book.proofs.Verdicts.{any-block}
use Rattle.book.proofs.HeaderBlock.{header-fits, header_of_lem}
use Rattle.book.proofs.TradeBlock.{records_in, trades-of}
use Rattle.book.proofs.Accepted.{Sound, sound, blocks-for, length-block_at, length-record_at, held, accepted-record}
use Rattle.book.proofs.Encoded.{Encodable, Acceptable, LaidOut, laid-encoded}

module _ (s : List ℕ) (used : ℕ) (bytes : AreBytes s) (b : Sound s used) where
  pub header-block : block_at s 0 ≡ header_block (header_of s) (curve_count s) (trade_blocks s)
  header-block =
      header_of_lem (block_at s 0) (1 + curve_count s + trade_blocks s) (bytes-part s (0 * 512) 512 bytes) (length-block_at s used b 0 (omega arith)) b.header
      ∙ rw (head-fields s, head-curves s, head-trades s)

  -- the records of trade block j are nine of the book's
  block-records : (j : ℕ) → j < trade_blocks s → records_in (block_at s (1 + curve_count s + j)) ≡ records_of_block (records s) j
  unfolding records record_at
  block-records j l =
      let n = held s used b j l in
      sym (table-part (record_at s) 0 (trade_count s) (j * 9) 9
      ∙ rw (← n)
      (table_same (record_at s) (record_in (block_at s (1 + curve_count s + j))) (0 + j * 9) 0 (record_count (block_at s (1 + curve_count s + j)))
      (λ i c.
      let p : (0 + j * 9 + i) / 9 ≡ j = omega arith in
      let q : (0 + j * 9 + i) % 9 ≡ 0 + i = omega arith in
      rw (p, q))))

  pub trade-block : (j : ℕ) → j < trade_blocks s → trade_block (1 + curve_count s + j) (records_of_block (records s) j) ≡ block_at s (1 + curve_count s + j)
  trade-block j l =
      rw (← block-records j l)
      (sym (trades-of _ _ _ _ (bytes-part s ((1 + curve_count s + j) * 512) 512 bytes) (length-block_at s used b (1 + curve_count s + j) (omega arith)) (b.trades j l)))

  pub sound-laid : LaidOut (header_of s) (curve_blocks s) (records s) s
  sound-laid =
      let c = length-curve_blocks s in
      let t : blocks_for (length (records s)) ≡ trade_blocks s = rw (length-records s) (blocks-for s used b) in
      record {
        head = rw (c, t) header-block;
        curve = λ k l. sym (curve-block s k (rw c at l));
        trade = λ j l. rw c (sym (trade-block j (rw t at l)));
      }

  pub sound-encoded : take used s ≡ encode (header_of s) (curve_blocks s) (records s)
  sound-encoded =
      let size : used ≡ (1 + length (curve_blocks s) + blocks_for (length (records s))) * 512 =
      b.blocks ∙ rw (length-curve_blocks s, length-records s, blocks-for s used b) in
      ap (λ (n : ℕ). take n s) size ∙ laid-encoded (header_of s) (curve_blocks s) (records s) s sound-laid

  -- ---- its parts can be encoded again, and are accepted

  pub sound-encodable : Encodable (header_of s) (curve_blocks s) (records s)
  sound-encodable =
      let c = length-curve_blocks s in
      let n = length-records s in
      let t = blocks-for s used b in
      let e = b.blocks in
      let m = b.limit in
      record {
        fits = header-fits s bytes;
        least = rw c b.least;
        most = rw c b.most;
        within = rw (c, n, t) (omega arith);
        each-curve = λ k l. let i : k < curve_count s = rw c at l in rw (curve-block s k i) (length-block_at s used b (1 + k) (omega arith));
        each-record = λ i l. let j : i < trade_count s = rw n at l in rw (record_of s i j) (length-record_at s used b i j);
      }

  pub sound-acceptable : Acceptable (curve_blocks s) (records s)
  sound-acceptable =
      let c = length-curve_blocks s in
      let n = length-records s in
      record {
        curve = λ k l. let i : k < curve_count s = rw c at l in rw (curve-block s k i) (b.curve k i);
        trade = λ i l k. let j : i < trade_count s = rw n at l in
            rw (record_of s i j) (any-block (curves_of s) (record_at s i) (1 + curve_count s + i / 9) k (accepted-record s used b i j));
      }

-- every byte of an accepted book is determined by its header, its curve blocks and its records
module _ (s : List ℕ) (used : ℕ) (bytes : AreBytes s) (h : blocks_verdict s used ≡ Ok tt) where
  pub accepted-encoded : take used s ≡ encode (header_of s) (curve_blocks s) (records s)
  accepted-encoded = sound-encoded s used bytes (sound s used h)

  pub length-accepted : length (encode (header_of s) (curve_blocks s) (records s)) ≡ used
  length-accepted = ap length (sym accepted-encoded) ∙ simp length-take (omega (arith, (sound s used h).lent))

  -- and what is lent is that, with what stands behind it
  pub accepted-lent : s ≡ encode (header_of s) (curve_blocks s) (records s) ++ drop used s
  accepted-lent = sym (take-append-drop used s) ∙ rw accepted-encoded
