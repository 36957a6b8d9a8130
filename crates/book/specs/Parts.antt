-- What a book holds (document 01, "Blocks of the book"): bytes as a list, in which the book stands first.
use Rattle.std.specs.Prelude.{ℕ, ◌+◌, ◌-◌, ◌*◌, ◌/◌, ◌%◌, cond, List, [], eqb, length, get_or}
use Rattle.laws.specs.Walk.{table}
use Rattle.layout.specs.Bytes.{byte_at, part}
use Rattle.layout.specs.Field.{u16_at, u32_at}
use Rattle.curve_block.specs.Parts.{currency_of}
use Rattle.record.specs.declared.Curves.{Curves}

-- block k, of 512 bytes
abbrev pub block_at : List ℕ → ℕ → List ℕ
block_at s k = part s (k * 512) 512

-- ---- the header, block 0: 4-7 account, 8-9 curves, 10-11 trade blocks, 12-15 valuation day

-- what a header holds besides its counts: it stays when trades come and go
pub record Header : Type 0 where
  pub account : ℕ
  -- "the valuation day as days since 1 January 2000"
  pub day : ℕ

abbrev pub header_of : List ℕ → Header
header_of s = record { account = u32_at s 4; day = u32_at s 12 }

abbrev pub curve_count : List ℕ → ℕ
curve_count s = u16_at s 8

abbrev pub trade_blocks : List ℕ → ℕ
trade_blocks s = u16_at s 10

-- ---- curves

-- blocks 1 to C
unfoldable pub curve_blocks : List ℕ → List (List ℕ)
curve_blocks s = table (block_at s) 1 (curve_count s)

-- what a record's rules know of the curves: how many there are, and the currency of curve id k at k - 1, 0 where there is none
unfoldable pub curves_in : List (List ℕ) → Curves
curves_in blocks = record { count = length blocks; currency = table (λ (k : ℕ). currency_of (get_or blocks k [])) 0 8 }

abbrev pub curves_of : List ℕ → Curves
curves_of s = curves_in (curve_blocks s)

-- ---- trades

-- byte 1 of a block of trades
abbrev pub record_count : List ℕ → ℕ
record_count b = byte_at b 1

-- records of 56 bytes from 4
abbrev pub record_place : ℕ → ℕ
record_place i = 4 + i * 56

-- record i of a block of trades
abbrev pub record_in : List ℕ → ℕ → List ℕ
record_in b i = part b (record_place i) 56

-- "only the last block may hold under 9"
unfoldable pub trade_count : List ℕ → ℕ
trade_count s =
    cond (eqb (trade_blocks s) 0) 0 ((trade_blocks s - 1) * 9 + record_count (block_at s (curve_count s + trade_blocks s)))

-- the record at a position from 0
unfoldable pub record_at : List ℕ → ℕ → List ℕ
record_at s i = record_in (block_at s (1 + curve_count s + i / 9)) (i % 9)

unfoldable pub records : List ℕ → List (List ℕ)
records s = table (record_at s) 0 (trade_count s)

-- ---- the parts together

-- a header, curve blocks and records: what is asked of a book as a whole, and what an edit changes, is said of these
pub record Parts : Type 0 where
  pub header : Header
  pub curves : List (List ℕ)
  pub trades : List (List ℕ)

abbrev pub parts_of : List ℕ → Parts
parts_of s = record { header = header_of s; curves = curve_blocks s; trades = records s }
