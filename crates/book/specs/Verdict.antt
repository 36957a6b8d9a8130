-- The verdict on a book by its length and its blocks, grounds 1 to 12 (document 01: "length first, then block by block, records in order within
-- a block").
use Rattle.std.specs.Prelude.{ℕ, ◌+◌, ◌/◌, Bool, cond, List, [], ◌∷◌, ◌≡◌, eqb, leb, length, Ok}
use Rattle.laws.specs.Walk.{over}
use Rattle.ground.specs.declared.Ground.TheVariants.{Length, Check, Place, Header, TradeBlock}
use Rattle.ground.specs.Verdicts.{Verdict, or_else, unless, Rule, first_broken}
use Rattle.layout.specs.Check.{breaks_check, breaks_place}
use Rattle.curve_block.specs.Verdict.{curve_verdict}
use Rattle.record.specs.declared.Curves.{Curves}
use Rattle.record.specs.Bytes.{fields_of}
use Rattle.flows.specs.Verdict.{record_verdict}
use Rattle.book.specs.Parts.{block_at, curve_count, curves_of, record_count, record_in}
use Rattle.book.specs.Rules.{breaks_length, breaks_header, breaks_trade_block}

-- the first refusal among the numbers from i on, n of them
unfoldable pub first_of : (ℕ → Verdict) → ℕ → ℕ → Verdict
first_of f i n = over (λ (k : ℕ) (next : Verdict). or_else (f k) next) (Ok tt) i n

-- the 56 bytes of a record of block k: grounds 8 to 12
abbrev pub bytes_verdict : Curves → List ℕ → ℕ → Verdict
bytes_verdict curves r k = record_verdict curves (fields_of r) k

-- the header of a book of so many blocks: grounds 2, 3 and 4
abbrev pub header_rules : List ℕ → ℕ → List Rule
header_rules b blocks =
    (breaks_check b, Check)
    ∷ (breaks_place b 1 0, Place)
    ∷ (breaks_header b blocks, Header)
    ∷ []

unfoldable pub header_verdict : List ℕ → ℕ → Verdict
header_verdict b blocks = first_broken 0 (header_rules b blocks)

-- the records of a block of trades, in order
unfoldable pub records_verdict : Curves → List ℕ → ℕ → Verdict
records_verdict curves b k = first_of (λ (i : ℕ). bytes_verdict curves (record_in b i) k) 0 (record_count b)

-- block k, of trades: grounds 2, 3 and 7, then its records
abbrev pub trades_rules : List ℕ → ℕ → Bool → List Rule
trades_rules b k last =
    (breaks_check b, Check)
    ∷ (breaks_place b 3 k, Place)
    ∷ (breaks_trade_block b last, TradeBlock)
    ∷ []

unfoldable pub trades_verdict : Curves → List ℕ → ℕ → Bool → Verdict
trades_verdict curves b k last = or_else (first_broken k (trades_rules b k last)) (records_verdict curves b k)

-- block k of so many, by its place: the header, a curve or trades
unfoldable pub block_verdict : List ℕ → ℕ → ℕ → Verdict
block_verdict s blocks k =
    cond (eqb k 0) (header_verdict (block_at s 0) blocks)
    (cond (leb k (curve_count s)) (curve_verdict (block_at s k) k)
    (trades_verdict (curves_of s) (block_at s k) k (eqb (k + 1) blocks)))

unfoldable pub blocks_verdict : List ℕ → ℕ → Verdict
blocks_verdict s used = unless (breaks_length used (length s)) Length 0 (first_of (block_verdict s (used / 512)) 0 (used / 512))

-- bytes that start with a book whose blocks are accepted, whatever lies behind it
pub record StartsWithBook (s : List ℕ) : Type 0 where
  pub used : ℕ
  pub accepted : blocks_verdict s used ≡ Ok tt
