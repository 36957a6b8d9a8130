-- Where the parts of a book stand.
use mathlib.Core.Path.{◌≡◌, ap, ◌∙◌}
use mathlib.Core.Logic.{◌⊎◌, inl, inr}
use mathlib.Core.List.{List, []}
use Prim.Native.Nat.{ℕ, ◌+◌, ◌-◌, ◌*◌, ◌≤◌, ◌<◌}
use native.Mathlib.Nat.{zero-add}
use native.Mathlib.Decide.{dec_lt}
use native.Mathlib.Omega.{arith}
use borrow.Author.Tests.{eq-eqb, ne_eqb}
use lib.ListN.{length, get_or, get_or-eq_default}
use Rattle.laws.proofs.Walk.{length-table, get_d-table}
use Rattle.layout.specs.Bytes.{put}
use Rattle.layout.proofs.Bytes.{length-put, byte-apart, part-put, part-kept}
use Rattle.layout.proofs.Field.{field-part}
use Rattle.book.specs.Parts.{block_at, header_of, curve_count, trade_blocks, curve_blocks, curves_in, curves_of, record_count, trade_count, record_at, records}

-- ---- the header's fields, in its block

pub head-fields : (s : List ℕ) → header_of (block_at s 0) ≡ header_of s
head-fields s = rw (field-part 4 s 0 512 4 (omega arith), field-part 4 s 0 512 12 (omega arith))

pub head-curves : (s : List ℕ) → curve_count (block_at s 0) ≡ curve_count s
head-curves s = field-part 2 s 0 512 8 (omega arith)

pub head-trades : (s : List ℕ) → trade_blocks (block_at s 0) ≡ trade_blocks s
head-trades s = field-part 2 s 0 512 10 (omega arith)

-- ---- curves

pub length-curve_blocks : (s : List ℕ) → length (curve_blocks s) ≡ curve_count s
unfolding curve_blocks
length-curve_blocks s = length-table (block_at s) 1 (curve_count s)

pub curve-block : (s : List ℕ) (k : ℕ) → k < curve_count s → get_or (curve_blocks s) k [] ≡ block_at s (1 + k)
unfolding curve_blocks
curve-block s k h = get_d-table (block_at s) 1 (curve_count s) k [] h

pub no-curve-block : (s : List ℕ) (k : ℕ) → curve_count s ≤ k → get_or (curve_blocks s) k [] ≡ []
no-curve-block s k h = get_or-eq_default (curve_blocks s) [] (rw (length-curve_blocks s) h)

pub curves-count : (s : List ℕ) → (curves_of s).count ≡ curve_count s
unfolding curves_in
curves-count s = length-curve_blocks s

-- ---- how many records

pub no-trades : (s : List ℕ) → trade_blocks s ≡ 0 → trade_count s ≡ 0
unfolding trade_count
no-trades s e = rw (eq-eqb (trade_blocks s) 0 e)

-- where there are trades, the last block holds what the others leave
pub last-trades : (s : List ℕ) → 0 < trade_blocks s → trade_count s ≡ (trade_blocks s - 1) * 9 + record_count (block_at s (1 + curve_count s + (trade_blocks s - 1)))
unfolding trade_count
last-trades s l =
    let e : curve_count s + trade_blocks s ≡ 1 + curve_count s + (trade_blocks s - 1) = omega arith in
    rw (ne_eqb (trade_blocks s) 0 (λ z. omega arith), e)

-- ---- records

pub length-records : (s : List ℕ) → length (records s) ≡ trade_count s
unfolding records
length-records s = length-table (record_at s) 0 (trade_count s)

pub record_of : (s : List ℕ) (i : ℕ) → i < trade_count s → get_or (records s) i [] ≡ record_at s i
unfolding records
record_of s i l = get_d-table (record_at s) 0 (trade_count s) i [] l ∙ ap (record_at s) (zero-add i)

-- ---- a block written over

module _ (s : List ℕ) (k : ℕ) (b : List ℕ) where
  pub block-put : length b ≡ 512 → k * 512 + 512 ≤ length s → block_at (put s (k * 512) b) k ≡ b
  block-put long h = rw long at (part-put s (k * 512) b (rw long h))

  pub block_apart : length b ≤ 512 → (j : ℕ) → (j ≡ k → ⊥) → block_at (put s (k * 512) b) j ≡ block_at s j
  block_apart short j other =
      part-kept (put s (k * 512) b) s (j * 512) 512 (length-put s (k * 512) b) (λ m l h. byte-apart s (k * 512) b m (side m l h (dec_lt j k)))
    where
      side : (m : ℕ) → j * 512 ≤ m → m < j * 512 + 512 → Dec (j < k) → (m < k * 512) ⊎ (k * 512 + length b ≤ m)
      side m l h (yes d) = inl (omega arith)
      side m l h (no d) = inr (omega arith)
