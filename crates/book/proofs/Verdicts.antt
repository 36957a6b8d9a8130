-- What a verdict that finds nothing says, rule by rule.
use mathlib.Core.Path.{◌≡◌, refl}
use mathlib.Core.Bool.{Bool, false}
use mathlib.Core.List.{List}
use Prim.Native.Nat.{ℕ, ◌+◌, ◌-◌, ◌/◌, ◌≤◌, ◌<◌}
use native.Mathlib.Nat.{sub-zero}
use native.Mathlib.Omega.{arith}
use borrow.Author.Tests.{ne_eqb, le-leb, lt-leb}
use lib.Dec.{eqb}
use lib.ListN.{length}
use Rattle.std.specs.Prelude.{Ok, Err}
use Rattle.ground.specs.declared.Refusal.{Refusal}
use Rattle.ground.specs.Verdicts.{first_broken}
use Rattle.ground.proofs.Verdicts.{or_else-accepted, unbroken, in-any-block}
use Rattle.layout.specs.Check.{breaks_check, breaks_place}
use Rattle.curve_block.specs.Verdict.{curve_verdict}
use Rattle.record.specs.declared.Curves.{Curves}
use Rattle.record.specs.Bytes.{fields_of}
use Rattle.flows.specs.Verdict.{record_rules, record_verdict}
use Rattle.book.specs.Parts.{block_at, curve_count, curves_of, record_count, record_in}
use Rattle.book.specs.Rules.{breaks_length}
use Rattle.book.specs.Verdict.{bytes_verdict, first_of, header_rules, header_verdict, records_verdict, trades_rules, trades_verdict, block_verdict, blocks_verdict}
use Rattle.book.proofs.First.{first-passed, first-stopped, first-at, first-of}
use Rattle.book.proofs.Sound.{Headed, headed, header-sound, Traded, traded, trade-block-sound}

-- ---- a header

pub record HeaderSound (b : List ℕ) (blocks : ℕ) : Type 0 where
  pub checked : breaks_check b ≡ false
  pub placed : breaks_place b 1 0 ≡ false
  pub counts : Headed b blocks

pub header-accepted : (b : List ℕ) (blocks : ℕ) → header_verdict b blocks ≡ Ok tt → HeaderSound b blocks
unfolding header_verdict
header-accepted b n h =
    let kept = unbroken 0 (header_rules b n) h in record { checked = kept 0; placed = kept 1; counts = headed b n (kept 2) }

pub accepted-header : (b : List ℕ) (blocks : ℕ) → HeaderSound b blocks → header_verdict b blocks ≡ Ok tt
unfolding header_verdict
accepted-header b n h = rw (h.checked, h.placed, header-sound b n h.counts)

-- ---- a block of trades

pub record TradesSound (curves : Curves) (b : List ℕ) (k : ℕ) (last : Bool) : Type 0 where
  pub checked : breaks_check b ≡ false
  pub placed : breaks_place b 3 k ≡ false
  pub counts : Traded b last
  pub each : (i : ℕ) → i < record_count b → bytes_verdict curves (record_in b i) k ≡ Ok tt

pub trades-accepted : (curves : Curves) (b : List ℕ) (k : ℕ) (last : Bool) → trades_verdict curves b k last ≡ Ok tt → TradesSound curves b k last
unfolding trades_verdict records_verdict
trades-accepted curves b k last h =
    let p = or_else-accepted (first_broken k (trades_rules b k last)) _ tt h in
    let kept = unbroken k (trades_rules b k last) p.0 in
    record {
      checked = kept 0;
      placed = kept 1;
      counts = traded b last (kept 2);
      each = λ i l. first-at (λ (j : ℕ). bytes_verdict curves (record_in b j) k) 0 (record_count b) p.1 i (omega arith) (omega arith);
    }

pub accepted-trades : (curves : Curves) (b : List ℕ) (k : ℕ) (last : Bool) → TradesSound curves b k last → trades_verdict curves b k last ≡ Ok tt
unfolding trades_verdict records_verdict
accepted-trades curves b k last h =
    rw (h.checked, h.placed, trade-block-sound b last h.counts)
    (first-of (λ (j : ℕ). bytes_verdict curves (record_in b j) k) 0 (record_count b) (λ i l m. h.each i (omega arith)))

-- ---- a block, by its place

pub first_block : (s : List ℕ) (n : ℕ) → block_verdict s n 0 ≡ header_verdict (block_at s 0) n
unfolding block_verdict
first_block s n = refl

pub curve-place : (s : List ℕ) (n k : ℕ) → 1 ≤ k → k ≤ curve_count s → block_verdict s n k ≡ curve_verdict (block_at s k) k
unfolding block_verdict
curve-place s n k h l = rw (ne_eqb k 0 (λ e. omega arith), le-leb k (curve_count s) l)

pub trade-place : (s : List ℕ) (n k : ℕ) → 1 ≤ k → curve_count s < k → block_verdict s n k ≡ trades_verdict (curves_of s) (block_at s k) k (eqb (k + 1) n)
unfolding block_verdict
trade-place s n k h l = rw (ne_eqb k 0 (λ e. omega arith), lt-leb k (curve_count s) l)

-- ---- the blocks in order

-- a header that is refused is the whole answer
pub header-stops : (s : List ℕ) (n : ℕ) {r : Refusal} → 0 < n → header_verdict (block_at s 0) n ≡ Err r → first_of (block_verdict s n) 0 n ≡ Err r
header-stops s n {r} h e = rw sub-zero at (first-stopped (block_verdict s n) 0 n {r = r} h (rw (first_block s n) e))

-- and past one that is accepted stand the blocks from 1 on
pub header-passes : (s : List ℕ) (n : ℕ) → 0 < n → header_verdict (block_at s 0) n ≡ Ok tt → first_of (block_verdict s n) 0 n ≡ first_of (block_verdict s n) 1 (n - 1)
header-passes s n h e = rw sub-zero at (first-passed (block_verdict s n) 0 n h (rw (first_block s n) e))

-- a book of a sound length is judged by its blocks
pub verdict-blocks : (s : List ℕ) (used : ℕ) → breaks_length used (length s) ≡ false → blocks_verdict s used ≡ first_of (block_verdict s (used / 512)) 0 (used / 512)
unfolding blocks_verdict
verdict-blocks s used h = rw h

-- a record that is accepted in one block is accepted in any
pub any-block : (curves : Curves) (r : List ℕ) (k m : ℕ) → bytes_verdict curves r k ≡ Ok tt → bytes_verdict curves r m ≡ Ok tt
unfolding record_verdict
any-block curves r k m h = in-any-block k (record_rules curves (fields_of r)) h m
