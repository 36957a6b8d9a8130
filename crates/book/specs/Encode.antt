-- The bytes of a book, from its header, its curve blocks and its records (document 01, "Blocks of the book"): a book that is accepted
-- has no other bytes.
use Rattle.std.specs.Prelude.{ℕ, ◌+◌, ◌-◌, ◌*◌, ◌/◌, length, take, drop, replicate}
use mathlib.Core.List.{List, [], ◌∷◌, ◌++◌, flatten}
use Rattle.laws.specs.Walk.{table}
use Rattle.layout.specs.Field.{bytes_of}
use Rattle.layout.specs.Row.{Field, row_bytes}
use Rattle.layout.specs.Check.{sealed}
use Rattle.book.specs.Parts.{Header, Parts}

-- "Byte 0 is the kind, 2-3 the block number"; byte 1 is the count of a block of trades; from 4 stands what the kind names, and "Bytes that
-- no layout names are 0" up to the check
unfoldable pub block : ℕ → ℕ → ℕ → List ℕ → List ℕ
block kind count number named =
    sealed (kind ∷ count ∷ bytes_of 2 number ++ named ++ replicate (508 - length named) 0)

-- "4-7 account, 8-9 curves C (1 to 8), 10-11 trade blocks T"; "bytes 12-15 hold the valuation day"
abbrev pub header_row : Header → ℕ → ℕ → List Field
header_row header curves trades = (4, header.account) ∷ (2, curves) ∷ (2, trades) ∷ (4, header.day) ∷ []

-- "Header (kind 1, block 0)"
unfoldable pub header_block : Header → ℕ → ℕ → List ℕ
header_block header curves trades = block 1 0 0 (row_bytes (header_row header curves trades))

-- "Trades (kind 3): byte 1 is the count .. records of 56 bytes from 4."
unfoldable pub trade_block : ℕ → List (List ℕ) → List ℕ
trade_block number records = block 3 (length records) number (flatten records)

-- the blocks that so many records take, nine to a block
abbrev pub blocks_for : ℕ → ℕ
blocks_for n = (n + 8) / 9

-- the records of trade block j, from 0
abbrev pub records_of_block : List (List ℕ) → ℕ → List (List ℕ)
records_of_block records j = take 9 (drop (j * 9) records)

-- the trade blocks, numbered from first on
unfoldable pub trade_blocks_of : ℕ → List (List ℕ) → List (List ℕ)
trade_blocks_of first records = table (λ (j : ℕ). trade_block (first + j) (records_of_block records j)) 0 (blocks_for (length records))

-- the header, the curve blocks, the blocks of trades
unfoldable pub book_blocks : Header → List (List ℕ) → List (List ℕ) → List (List ℕ)
book_blocks header curves records =
    header_block header (length curves) (blocks_for (length records))
    ∷ curves ++ trade_blocks_of (1 + length curves) records

-- one behind the other
unfoldable pub encode : Header → List (List ℕ) → List (List ℕ) → List ℕ
encode header curves records = flatten (book_blocks header curves records)

abbrev pub book_of : Parts → List ℕ
book_of p = encode p.header p.curves p.trades
