-- A book with one curve block replaced by another of the same currency that breaks nothing: it is accepted, and the rest of it is as it was.
use mathlib.Core.Path.{◌≡◌, sym, ap, ◌∙◌}
use mathlib.Core.Logic.{inl}
use mathlib.Core.List.{List, []}
use Prim.Native.Nat.{ℕ, ◌+◌, ◌-◌, ◌*◌, ◌/◌, ◌≤◌, ◌<◌}
use native.Mathlib.Nat.{zero-add}
use native.Mathlib.Decide.{ℕ_discrete, dec_lt}
use native.Mathlib.Omega.{arith}
use lib.ListN.{length, get_or, set, length-set}
use lib.Seq.{ext_get_or, get_or-set_same, get_or-set_other}
use Rattle.std.specs.Prelude.{Ok}
use Rattle.laws.proofs.Tables.{table_same}
use Rattle.layout.specs.Bytes.{put}
use Rattle.layout.specs.Field.{number_at}
use Rattle.layout.proofs.Bytes.{length-put}
use Rattle.layout.proofs.Field.{field_apart}
use Rattle.curve_block.specs.Parts.{currency_of}
use Rattle.curve_block.specs.Verdict.{curve_verdict}
use Rattle.book.specs.Parts.{block_at, curve_count, trade_blocks, curve_blocks, curves_in, curves_of, trade_count, record_at, records, parts_of}
use Rattle.book.specs.Edited.{with_curve}
use Rattle.book.specs.Verdict.{block_verdict, blocks_verdict}
use Rattle.book.proofs.First.{first-of}
use Rattle.book.proofs.Places.{length-curve_blocks, curve-block, no-curve-block, no-trades, last-trades, block-put, block_apart}
use Rattle.book.proofs.Verdicts.{curve-place, verdict-blocks}
use Rattle.book.proofs.Accepted.{Sound, length-passed, block-passed, sound, place-held}

-- t is s with b for curve block k
pub record Replaced (s t : List ℕ) (used k : ℕ) (b : List ℕ) : Type 0 where
  pub accepted : blocks_verdict t used ≡ Ok tt
  pub parts : parts_of t ≡ with_curve (parts_of s) k b
  pub block : block_at t k ≡ b
  pub others : (j : ℕ) → j * 512 < used → (j ≡ k → ⊥) → block_at t j ≡ block_at s j

-- a block that may take its place
pub record Replaceable (s : List ℕ) (used k : ℕ) (b : List ℕ) : Type 0 where
  pub book : blocks_verdict s used ≡ Ok tt
  pub first : 1 ≤ k
  pub last : k ≤ curve_count s
  pub long : length b ≡ 512
  pub accepted : curve_verdict b k ≡ Ok tt
  pub currency : currency_of b ≡ currency_of (block_at s k)

module _ (s : List ℕ) (used k : ℕ) (b : List ℕ) (fine : Replaceable s used k b) where
  abbrev t : List ℕ
  t = put s (k * 512) b

  held : Sound s used
  held = sound s used fine.book

  -- ---- blocks

  within : (j : ℕ) → j < 1 + curve_count s + trade_blocks s → j * 512 + 512 ≤ length s
  within j l = omega (arith, held.blocks, held.lent)

  at-curve : block_at t k ≡ b
  at-curve = block-put s k b fine.long (within k (omega (arith, fine.last)))

  elsewhere : (j : ℕ) → j < 1 + curve_count s + trade_blocks s → (j ≡ k → ⊥) → block_at t j ≡ block_at s j
  elsewhere j l other = block_apart s k b (omega (arith, fine.long)) j other

  -- ---- the header

  head-field : (n at : ℕ) → at + n ≤ 512 → number_at n t at ≡ number_at n s at
  head-field n at l = field_apart n s (k * 512) b at (inl (omega (arith, fine.first)))

  curves-same : curve_count t ≡ curve_count s
  curves-same = head-field 2 8 (omega arith)

  trade-blocks-same : trade_blocks t ≡ trade_blocks s
  trade-blocks-same = head-field 2 10 (omega arith)

  -- ---- the curves

  blocks-same : curve_blocks t ≡ set (curve_blocks s) (k - 1) b
  blocks-same =
      let n = length-curve_blocks s in
      ext_get_or [] (curve_blocks t) (set (curve_blocks s) (k - 1) b) (length-curve_blocks t ∙ curves-same ∙ sym n ∙ sym (length-set (curve_blocks s) (k - 1) b))
      (λ j l. go j (omega (arith, length-curve_blocks t, curves-same)) (ℕ_discrete j (k - 1)))
    where
      go : (j : ℕ) → j < curve_count s → Dec (j ≡ k - 1) → get_or (curve_blocks t) j [] ≡ get_or (set (curve_blocks s) (k - 1) b) j []
      go j l (yes e) =
          let place : 1 + j ≡ k = omega (arith, fine.first) in
          let n = length-curve_blocks s in
          curve-block t j (omega (arith, curves-same)) ∙ ap (block_at t) place ∙ at-curve
          ∙ sym (rw e (get_or-set_same (curve_blocks s) (k - 1) b [] (omega (arith, fine.first, fine.last))))
      go j l (no e) =
          curve-block t j (omega (arith, curves-same)) ∙ elsewhere (1 + j) (omega arith) (λ f. e (omega arith)) ∙ sym (curve-block s j l)
          ∙ sym (get_or-set_other (curve_blocks s) (k - 1) j b [] (λ f. e (omega arith)))

  -- ---- the currencies

  currency-same : (j : ℕ) → currency_of (get_or (curve_blocks t) j []) ≡ currency_of (get_or (curve_blocks s) j [])
  currency-same j = go (dec_lt j (curve_count s)) (ℕ_discrete (1 + j) k)
    where
      go : Dec (j < curve_count s) → Dec (1 + j ≡ k) → currency_of (get_or (curve_blocks t) j []) ≡ currency_of (get_or (curve_blocks s) j [])
      go (no h) same = rw (no-curve-block s j (omega arith), no-curve-block t j (omega (arith, curves-same)))
      go (yes h) (yes e) =
          rw (curve-block s j h, curve-block t j (omega (arith, curves-same)), e, at-curve) fine.currency
      go (yes h) (no e) =
          rw (curve-block s j h, curve-block t j (omega (arith, curves-same)), elsewhere (1 + j) (omega arith) e)

  currencies-same : curves_of t ≡ curves_of s
  unfolding curves_in
  currencies-same =
      rw (length-curve_blocks t, length-curve_blocks s, curves-same, table_same (λ (j : ℕ). currency_of (get_or (curve_blocks t) j [])) (λ (j : ℕ). currency_of (get_or (curve_blocks s) j [])) 0 0 8 (λ j l. currency-same (0 + j)))

  -- ---- the records

  trade-block-same : (j : ℕ) → j < trade_blocks s → block_at t (1 + curve_count s + j) ≡ block_at s (1 + curve_count s + j)
  trade-block-same j l = elsewhere (1 + curve_count s + j) (omega arith) (λ e. omega (arith, fine.last))

  count_same : trade_count t ≡ trade_count s
  count_same = go (ℕ_discrete (trade_blocks s) 0)
    where
      go : Dec (trade_blocks s ≡ 0) → trade_count t ≡ trade_count s
      go (yes e) = no-trades t (trade-blocks-same ∙ e) ∙ sym (no-trades s e)
      go (no e) =
          last-trades t (omega (arith, trade-blocks-same))
          ∙ rw (trade-blocks-same, curves-same, trade-block-same (trade_blocks s - 1) (omega arith)) (sym (last-trades s (omega arith)))

  records-same : records t ≡ records s
  unfolding records record_at
  records-same =
      rw count_same
      (table_same (record_at t) (record_at s) 0 0 (trade_count s)
      (λ i l.
      let e : 0 + i ≡ i = zero-add i in
      rw (e, curves-same, trade-block-same (i / 9) (place-held s used held i l).0)))

  -- ---- the verdict

  verdict-same : (n j : ℕ) → j < 1 + curve_count s + trade_blocks s → (j ≡ k → ⊥) → block_verdict t n j ≡ block_verdict s n j
  unfolding block_verdict
  verdict-same n j l other =
      rw (elsewhere 0 (omega arith) (λ e. omega (arith, fine.first)), curves-same, currencies-same, elsewhere j l other)

  block-accepted : (j : ℕ) → j < used / 512 → Dec (j ≡ k) → block_verdict t (used / 512) j ≡ Ok tt
  block-accepted j l (yes e) =
      rw e (curve-place t (used / 512) k fine.first (rw curves-same fine.last) ∙ rw at-curve fine.accepted)
  block-accepted j l (no e) = verdict-same (used / 512) j (omega (arith, held.blocks)) e ∙ block-passed s used fine.book j l

  pub replaced : Replaced s t used k b
  replaced =
      record {
        accepted =
            verdict-blocks t used (rw length-put (length-passed s used fine.book).0)
            ∙ first-of (block_verdict t (used / 512)) 0 (used / 512) (λ j l m. block-accepted j (omega arith) (ℕ_discrete j k));
        parts = rw (head-field 4 4 (omega arith), head-field 4 12 (omega arith), blocks-same, records-same);
        block = at-curve;
        others = λ j l e. elsewhere j (omega (arith, held.blocks)) e;
      }
