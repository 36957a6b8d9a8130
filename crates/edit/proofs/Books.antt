-- An accepted book by its blocks, and bytes that begin with blocks of its parts.
use mathlib.Core.Path.{◌≡◌, sym, ◌∙◌}
use mathlib.Core.List.{List, [], ◌++◌}
use Prim.Native.Nat.{ℕ, ◌+◌, ◌*◌, ◌≤◌, ◌<◌}
use native.Mathlib.Omega.{arith}
use lib.ListN.{length, get_or, drop, take-append-drop}
use Rattle.std.specs.Prelude.{Ok}
use Rattle.layout.specs.Bytes.{AreBytes}
use Rattle.book.specs.Parts.{block_at, header_of, curve_count, trade_blocks, curve_blocks, trade_count, records, parts_of}
use Rattle.book.specs.Verdict.{blocks_verdict}
use Rattle.book.specs.Encode.{header_block, trade_block, blocks_for, records_of_block, book_of}
use Rattle.book.specs.Edited.{curves_with, with_trades}
use Rattle.book.proofs.Places.{length-curve_blocks, length-records}
use Rattle.book.proofs.Accepted.{sound, blocks-for}
use Rattle.book.proofs.TradeBlock.{Holds, trades-hold}
use Rattle.book.proofs.Encoded.{Encodable, laid-encoded, length-nine, nine-each}
use Rattle.book.proofs.Canonical.{trade-block, sound-encodable}

-- a book's size, in its parts
pub record Sized (s : List ℕ) (used : ℕ) : Type 0 where
  pub curve-count : length (curve_blocks s) ≡ curve_count s
  pub trade-count : length (records s) ≡ trade_count s
  pub trade-blocks : blocks_for (trade_count s) ≡ trade_blocks s
  pub size : used ≡ (1 + curve_count s + blocks_for (trade_count s)) * 512
  pub lent : used ≤ length s
  pub limit : used ≤ 65536

module _ (s : List ℕ) (used : ℕ) (bytes : AreBytes s) (ok : blocks_verdict s used ≡ Ok tt) where
  pub sized : Sized s used
  sized =
      let b = sound s used ok in
      let t = blocks-for s used b in
      record { curve-count = length-curve_blocks s; trade-count = length-records s; trade-blocks = t; size = b.blocks ∙ rw t; lent = b.lent; limit = b.limit }

  pub encodable : Encodable (header_of s) (curve_blocks s) (records s)
  encodable = sound-encodable s used bytes (sound s used ok)

  pub trades-held : (j : ℕ) → j < trade_blocks s → Holds (block_at s (1 + curve_count s + j)) (1 + curve_count s + j) (records_of_block (records s) j)
  trades-held j l =
      rw (← trade-block s used bytes (sound s used ok) j l)
      (trades-hold (1 + curve_count s + j) (records_of_block (records s) j) (omega (arith, length-nine (records s) j)) (nine-each (records s) j encodable.each-record))

-- the book with other records, from its blocks
pub relaid : (s : List ℕ) (rs : List (List ℕ)) (t rest : List ℕ)
    → block_at t 0 ≡ header_block (header_of s) (curve_count s) (blocks_for (length rs))
    → ((k : ℕ) → k < curve_count s → block_at t (1 + k) ≡ get_or (curves_with (curve_blocks s) rs) k [])
    → ((j : ℕ) → j < blocks_for (length rs) → block_at t (1 + curve_count s + j) ≡ trade_block (1 + curve_count s + j) (records_of_block rs j))
    → drop ((1 + curve_count s + blocks_for (length rs)) * 512) t ≡ rest
    → t ≡ book_of (with_trades (parts_of s) rs) ++ rest
relaid s rs t rest head curve trade behind =
    let c = length-curve_blocks s in
    let first = laid-encoded (header_of s) (curves_with (curve_blocks s) rs) rs t (record { head = rw c head; curve = rw c curve; trade = rw c trade }) in
    sym (take-append-drop ((1 + curve_count s + blocks_for (length rs)) * 512) t) ∙ rw (rw c at first, behind)
