-- The rules of a book's length, of its header and of a block of trades (document 01, grounds 1, 4 and 7): each is true where it is
-- broken.
use Rattle.std.specs.Prelude.{ℕ, ◌+◌, ◌%◌, Bool, ◌&&◌, ◌||◌, not, List, eqb, leb, ltb}
use Rattle.layout.specs.Bytes.{byte_at, zeros}
use Rattle.book.specs.Parts.{curve_count, trade_blocks, record_count, record_place}

-- 1. "The used length is 0, no multiple of 512, above 65,536 or above the lent length."
unfoldable pub breaks_length : ℕ → ℕ → Bool
breaks_length used lent = eqb used 0 || not (eqb (used % 512) 0) || ltb 65536 used || ltb lent used

-- 4. "A header count or unnamed byte is wrong": 1 to 8 curves, 1 + C + T blocks; byte 1, and all from 16 up to the check, are 0 (document 02,
-- wish 4: "Header bytes 12-15 hold the valuation day ..; rule 4 no longer wants them 0")
unfoldable pub breaks_header : List ℕ → ℕ → Bool
breaks_header b blocks = not (
    leb 1 (curve_count b)
    && leb (curve_count b) 8
    && eqb (1 + curve_count b + trade_blocks b) blocks
    && eqb (byte_at b 1) 0
    && zeros b 16 508)

-- a count is 1 to 9, and 9 where the block is not the last
unfoldable pub count_fits : ℕ → Bool → Bool
count_fits n last = leb 1 n && leb n 9 && (last || eqb n 9)

-- 7. "A trade count or a byte behind the records is wrong."
unfoldable pub breaks_trade_block : List ℕ → Bool → Bool
breaks_trade_block b last = not (count_fits (record_count b) last && zeros b (record_place (record_count b)) 508)
