-- The bytes of one block changed, and the steps of an edit on the lent bytes: what the code does, as the way to what `edit` promises.
use Rattle.std.specs.Prelude.{ℕ, ◌+◌, ◌-◌, ◌*◌, ◌/◌, ◌%◌, cond, List, eqb, set, replicate}
use Rattle.layout.specs.Bytes.{part, put, on_block}
use Rattle.layout.specs.Field.{bytes_of}
use Rattle.layout.specs.Check.{sealed}
use Rattle.book.specs.Parts.{curve_count, trade_blocks, record_place}
use Rattle.book.specs.Encode.{blocks_for}

-- a block of trades with a record in place n, behind its others
unfoldable pub with_record : List ℕ → ℕ → List ℕ → List ℕ
with_record b n r = sealed (set (put b (record_place n) r) 1 (n + 1))

-- a block of trades with no record, not sealed
unfoldable pub bare_block : ℕ → List ℕ
bare_block number = put (set (replicate 512 0) 0 3) 2 (bytes_of 2 number)

-- a header with another number of trade blocks
unfoldable pub with_trade_blocks : List ℕ → ℕ → List ℕ
with_trade_blocks b n = sealed (put b 10 (bytes_of 2 n))

-- ---- steps

-- a new block behind the book, with the record, and the header's count
unfoldable pub with_new_block : List ℕ → ℕ → List ℕ → List ℕ
with_new_block s used r =
    on_block (λ (b : List ℕ). with_trade_blocks b (trade_blocks s + 1)) (put s used (with_record (bare_block (used / 512)) 0 r)) 0

-- where the record at a position stands, behind so many curves
abbrev pub place_of : ℕ → ℕ → ℕ
place_of curves i = (1 + curves + i / 9) * 512 + record_place (i % 9)

-- the record behind a position moved up to it
unfoldable pub record_moved : ℕ → ℕ → List ℕ → List ℕ
record_moved curves i s = put s (place_of curves i) (part s (place_of curves (i + 1)) 56)

-- where so many records end: with their last block, if they fill it
abbrev pub end_of : ℕ → ℕ → ℕ
end_of curves n = cond (eqb (n % 9) 0) ((1 + curves + n / 9) * 512) (place_of curves n)

-- n records left: zeros behind them, and the counts: byte 1 of the last block, and the header's
unfoldable pub cut_back : List ℕ → ℕ → ℕ → List ℕ
cut_back s used n =
    on_block (λ (b : List ℕ). with_trade_blocks b (blocks_for n))
    (set (put s (end_of (curve_count s) n) (replicate (used - end_of (curve_count s) n) 0)) (used - 511) (n % 9)) 0

-- block k sealed
abbrev pub block_sealed : ℕ → List ℕ → List ℕ
block_sealed k s = on_block sealed s (k * 512)
