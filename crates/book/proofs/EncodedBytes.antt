-- An encoding is bytes where its parts are.
use mathlib.Core.List.{List, [], ◌∷◌, ◌++◌, flatten}
use Prim.Native.Nat.{ℕ, suc, ◌+◌, ◌-◌, ◌*◌, ◌<◌}
use native.Mathlib.Omega.{arith}
use lib.ListN.{length, get_or, replicate}
use Rattle.layout.specs.Bytes.{AreBytes}
use Rattle.layout.specs.Field.{bytes_of}
use Rattle.layout.specs.Row.{row_bytes}
use Rattle.layout.proofs.Bytes.{bytes-zeros, bytes-cons, bytes-append}
use Rattle.layout.proofs.Field.{bytes-bytes}
use Rattle.layout.proofs.Row.{bytes-row}
use Rattle.layout.proofs.Sealed.{bytes-sealed}
use Rattle.book.specs.Parts.{Header}
use Rattle.book.specs.Encode.{block, header_row, header_block, trade_block, blocks_for, records_of_block, book_blocks, encode}
use Rattle.book.proofs.Encoded.{length-nine, nine-at, each-block, length-blocks, block-header, block-curve, block-trade}

-- every list of a list is bytes
abbrev pub AllBytes : List (List ℕ) → Type 0
AllBytes L = (k : ℕ) → k < length L → AreBytes (get_or L k [])

bytes-flatten : (L : List (List ℕ)) → AllBytes L → AreBytes (flatten L)
unfolding flatten
bytes-flatten [] h = bytes-zeros 0
bytes-flatten (x ∷ L) h = bytes-append x (flatten L) (h 0 (omega arith)) (bytes-flatten L (λ k l. h (suc k) (omega arith)))

bytes-block : (kind count number : ℕ) (named : List ℕ) → kind < 256 → count < 256 → AreBytes named → AreBytes (block kind count number named)
unfolding block
bytes-block kind count number named k c h =
    let blank : List ℕ = replicate (508 - length named) 0 in
    let rest : List ℕ = bytes_of 2 number ++ named ++ blank in
    bytes-sealed (kind ∷ count ∷ rest) (bytes-cons kind (count ∷ rest) k (bytes-cons count rest c
    (bytes-append (bytes_of 2 number ++ named) blank (bytes-append (bytes_of 2 number) named (bytes-bytes 2 number) h) (bytes-zeros (508 - length named)))))

bytes-header : (header : Header) (curves trades : ℕ) → AreBytes (header_block header curves trades)
unfolding header_block
bytes-header header curves trades = bytes-block 1 0 0 (row_bytes (header_row header curves trades)) (omega arith) (omega arith) (bytes-row (header_row header curves trades))

module _ (header : Header) (cs rs : List (List ℕ)) (curves : AllBytes cs) (trades : AllBytes rs) where
  bytes-trades : (number j : ℕ) → AreBytes (trade_block number (records_of_block rs j))
  unfolding trade_block
  bytes-trades number j =
      let n = length-nine rs j in
      bytes-block 3 _ number _ (omega arith) (omega arith)
      (bytes-flatten (records_of_block rs j) (λ i l. rw (nine-at rs j i (omega arith)) (trades (j * 9 + i) (omega arith))))

  pub bytes-encoded : AreBytes (encode header cs rs)
  unfolding encode
  bytes-encoded =
      bytes-flatten (book_blocks header cs rs)
      (λ k l.
      each-block (length cs) (blocks_for (length rs)) (λ k. AreBytes (get_or (book_blocks header cs rs) k []))
      (rw (block-header header cs rs) (bytes-header header (length cs) (blocks_for (length rs))))
      (λ k b. rw (block-curve header cs rs k b) (curves k b))
      (λ j b. rw (block-trade header cs rs j b) (bytes-trades (1 + length cs + j) j))
      k (rw (length-blocks header cs rs) at l))
