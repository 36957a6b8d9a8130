-- What an accepted book gives its user.
use mathlib.Core.Path.{◌≡◌, sym, ap, ◌∙◌}
use mathlib.Core.Bool.{false}
use mathlib.Core.List.{List}
use Prim.Native.Nat.{ℕ, ◌+◌, ◌-◌, ◌*◌, ◌/◌, ◌%◌, ◌≤◌, ◌<◌, min}
use native.Mathlib.Decide.{ℕ_discrete}
use native.Mathlib.Omega.{arith}
use borrow.Author.Tests.{ne_eqb}
use lib.Dec.{eqb}
use lib.ListN.{length}
use Rattle.std.specs.Prelude.{Ok}
use Rattle.ground.specs.declared.Ground.TheVariants.{Length}
use Rattle.layout.proofs.Bytes.{length_part}
use Rattle.ground.proofs.Verdicts.{unless-accepted}
use Rattle.curve_block.specs.Verdict.{curve_verdict}
use Rattle.curve_block.proofs.Accepted.{SoundCurve, accepted-curve}
use Rattle.book.specs.Parts.{block_at, curve_count, trade_blocks, curves_of, record_count, record_place, trade_count, record_at}
use Rattle.book.specs.Rules.{breaks_length}
use Rattle.book.specs.Verdict.{bytes_verdict, first_of, block_verdict, blocks_verdict}
use Rattle.book.specs.Encode.{blocks_for}
use Rattle.book.proofs.First.{first-at}
use Rattle.book.proofs.Sound.{Long, long}
use Rattle.book.proofs.Places.{head-curves, head-trades, no-trades, last-trades}
use Rattle.book.proofs.Verdicts.{HeaderSound, header-accepted, TradesSound, trades-accepted, first_block, curve-place, trade-place}

-- its blocks, and that each of them breaks nothing
pub record Sound (s : List ℕ) (used : ℕ) : Type 0 where
  pub blocks : used ≡ (1 + curve_count s + trade_blocks s) * 512
  pub limit : used ≤ 65536
  pub lent : used ≤ length s
  pub least : 1 ≤ curve_count s
  pub most : curve_count s ≤ 8
  pub header : HeaderSound (block_at s 0) (1 + curve_count s + trade_blocks s)
  pub curve : (k : ℕ) → k < curve_count s → curve_verdict (block_at s (1 + k)) (1 + k) ≡ Ok tt
  pub trades : (j : ℕ) → j < trade_blocks s →
      TradesSound (curves_of s) (block_at s (1 + curve_count s + j)) (1 + curve_count s + j) (eqb (1 + curve_count s + j + 1) (1 + curve_count s + trade_blocks s))

module _ (s : List ℕ) (used : ℕ) (h : blocks_verdict s used ≡ Ok tt) where
  pub length-passed : (breaks_length used (length s) ≡ false) × (first_of (block_verdict s (used / 512)) 0 (used / 512) ≡ Ok tt)
  unfolding blocks_verdict
  length-passed = unless-accepted (breaks_length used (length s)) Length 0 _ tt h

  fits : Long used (length s)
  fits = long used (length s) length-passed.0

  pub block-passed : (k : ℕ) → k < used / 512 → block_verdict s (used / 512) k ≡ Ok tt
  block-passed k l = first-at (block_verdict s (used / 512)) 0 (used / 512) length-passed.1 k (omega arith) (omega arith)

  headed : HeaderSound (block_at s 0) (used / 512)
  headed = let l = fits in header-accepted (block_at s 0) (used / 512) (sym (first_block s (used / 512)) ∙ block-passed 0 (omega arith))

  count : used / 512 ≡ 1 + curve_count s + trade_blocks s
  count = let c = headed.counts.counts in omega (arith, head-curves s, head-trades s)

  pub sound : Sound s used
  sound =
      let l = fits in
      let e = count in
      let c = headed.counts in
      record {
        blocks = omega arith;
        limit = l.most;
        lent = l.within;
        least = omega (arith, head-curves s);
        most = omega (arith, head-curves s);
        header = rw (← e) headed;
        curve = λ k b. sym (curve-place s (used / 512) (1 + k) (omega arith) (omega arith)) ∙ block-passed (1 + k) (omega arith);
        trades = λ j b.
            rw (← e)
            (trades-accepted (curves_of s) (block_at s (1 + curve_count s + j)) (1 + curve_count s + j) (eqb (1 + curve_count s + j + 1) (used / 512))
            (sym (trade-place s (used / 512) (1 + curve_count s + j) (omega arith) (omega arith)) ∙ block-passed (1 + curve_count s + j) (omega arith)));
      }

-- ---- its curves

module _ (s : List ℕ) (used : ℕ) (b : Sound s used) (k : ℕ) (least : 1 ≤ k) (most : k ≤ curve_count s) where
  pub curve-block-accepted : curve_verdict (block_at s k) k ≡ Ok tt
  curve-block-accepted = let e : 1 + (k - 1) ≡ k = omega arith in ap (λ (j : ℕ). curve_verdict (block_at s j) j) (sym e) ∙ b.curve (k - 1) (omega arith)

  -- a curve's block breaks nothing
  pub curve-sound : SoundCurve (block_at s k) k
  curve-sound = accepted-curve (block_at s k) k curve-block-accepted

-- ---- its records

-- so many records take so many blocks, nine to a block
pub record BlocksTaken (n trades : ℕ) : Type 0 where
  pub most : n ≤ trades * 9
  pub least : trades * 9 < n + 9

module _ (s : List ℕ) (used : ℕ) (b : Sound s used) where
  -- a trade block that is not the last is full
  full : (j : ℕ) → j + 1 < trade_blocks s → record_count (block_at s (1 + curve_count s + j)) ≡ 9
  full j l = (b.trades j (omega arith)).counts.count.full (ne_eqb (1 + curve_count s + j + 1) (1 + curve_count s + trade_blocks s) (λ e. omega arith))

  pub blocks-taken : BlocksTaken (trade_count s) (trade_blocks s)
  blocks-taken = go (ℕ_discrete (trade_blocks s) 0)
    where
      go : Dec (trade_blocks s ≡ 0) → BlocksTaken (trade_count s) (trade_blocks s)
      go (yes e) = let z = no-trades s e in record { most = omega arith; least = omega arith }
      go (no e) =
          let l : 0 < trade_blocks s = omega arith in
          let n = last-trades s l in
          let c = (b.trades (trade_blocks s - 1) (omega arith)).counts.count in
          record { most = omega arith; least = omega arith }

  pub trade-count-most : trade_count s ≤ 126 * 9
  trade-count-most =
      let c = blocks-taken in
      let e = b.blocks in
      omega (arith, b.limit, b.least)

  pub blocks-for : blocks_for (trade_count s) ≡ trade_blocks s
  blocks-for = let c = blocks-taken in omega arith

  -- what trade block j holds
  pub held : (j : ℕ) → j < trade_blocks s → record_count (block_at s (1 + curve_count s + j)) ≡ min 9 (trade_count s - j * 9)
  held j l = go (ℕ_discrete (j + 1) (trade_blocks s))
    where
      go : Dec (j + 1 ≡ trade_blocks s) → record_count (block_at s (1 + curve_count s + j)) ≡ min 9 (trade_count s - j * 9)
      go (yes e) =
          let i : trade_blocks s - 1 ≡ j = omega arith in
          let n = rw i at (last-trades s (omega arith)) in
          let c = (b.trades j l).counts.count in
          omega arith
      go (no e) = let c = blocks-taken in omega (arith, full j (omega arith))

  pub place-held : (i : ℕ) → i < trade_count s → (i / 9 < trade_blocks s) × (i % 9 < record_count (block_at s (1 + curve_count s + i / 9)))
  place-held i l =
      let c = blocks-taken in
      let p : i / 9 < trade_blocks s = omega arith in
      (p, omega (arith, held (i / 9) p))

  -- every record is accepted, in its block
  pub accepted-record : (i : ℕ) → i < trade_count s → bytes_verdict (curves_of s) (record_at s i) (1 + curve_count s + i / 9) ≡ Ok tt
  unfolding record_at
  accepted-record i l = let p = place-held i l in (b.trades (i / 9) p.0).each (i % 9) p.1

  -- ---- sizes

  pub length-block_at : (k : ℕ) → k < 1 + curve_count s + trade_blocks s → length (block_at s k) ≡ 512
  length-block_at k l = let e = b.blocks in length_part s (k * 512) 512 (omega (arith, b.lent))

  pub length-record_at : (i : ℕ) → i < trade_count s → length (record_at s i) ≡ 56
  unfolding record_at
  length-record_at i l =
      let p = (place-held i l).0 in
      length_part (block_at s (1 + curve_count s + i / 9)) (record_place (i % 9)) 56 (omega (arith, length-block_at (1 + curve_count s + i / 9) (omega arith)))
