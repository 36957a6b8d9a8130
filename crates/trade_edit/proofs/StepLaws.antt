-- What the calls of a step leave, and what is read there afterwards.
use mathlib.Core.Path.{◌≡◌, refl, ◌∙◌, ap}
use mathlib.Core.Logic.{◌⊎◌, inl, inr}
use mathlib.Core.Bool.{Bool, true, false, cond}
use mathlib.Core.List.{List, ◌++◌}
use Prim.Native.Nat.{ℕ, ◌+◌, ◌-◌, ◌*◌, ◌/◌, ◌%◌, ◌≤◌, ◌<◌}
use native.Mathlib.Omega.{arith}
use lib.Dec.{eqb}
use lib.ListN.{length, set, take, drop, replicate, length-take, length-set, length-replicate, get_or-replicate}
use lib.Seq.{get_or-set_same, get_or-set_other}
use Rattle.laws.specs.Walk.{run}
use Rattle.laws.proofs.Walk.{run-kept, run-made}
use Rattle.layout.specs.Bytes.{byte_at, part, put, on_block}
use Rattle.layout.specs.Check.{sealed}
use Rattle.layout.proofs.Bytes.{length-put, byte-apart, byte_put, length_part, byte-part, part-kept, on_block-lent}
use Rattle.layout.proofs.Sealed.{length-sealed}
use Rattle.book.specs.Parts.{block_at, curve_count, trade_blocks}
use Rattle.book.specs.Encode.{blocks_for}
use Rattle.book.proofs.Places.{block-put, block_apart}
use Rattle.trade_edit.specs.Blocks.{with_record, bare_block, with_trade_blocks, with_new_block, place_of, record_moved, end_of, cut_back, block_sealed}

-- ---- lengths

pub length-with_record : (n : ℕ) (r b : List ℕ) → length (with_record b n r) ≡ length b
unfolding with_record
length-with_record n r b = simp (length-sealed, length-set, length-put)

pub length-with_trade_blocks : (n : ℕ) (b : List ℕ) → length (with_trade_blocks b n) ≡ length b
unfolding with_trade_blocks
length-with_trade_blocks n b = simp (length-sealed, length-put)

pub length-on_block : (f : List ℕ → List ℕ) (s : List ℕ) (at : ℕ) → length (on_block f s at) ≡ length s
unfolding on_block
length-on_block f s at = length-put s at (f (part s at 512))

-- ---- a block changed

module _ (f : List ℕ → List ℕ) (same : (b : List ℕ) → length (f b) ≡ length b) (s : List ℕ) where
  -- what is left where it was lent
  pub block-left : (at : ℕ) {t : List ℕ} → at + 512 ≤ length s → t ≡ f (part s at 512) → take at s ++ (t ++ drop 512 (drop at s)) ≡ on_block f s at
  block-left at h e = rw e (on_block-lent f s at h (same (part s at 512) ∙ length_part s at 512 h))

  module _ (k : ℕ) where
    pub block-changed : k * 512 + 512 ≤ length s → block_at (on_block f s (k * 512)) k ≡ f (block_at s k)
    unfolding on_block
    block-changed h = block-put s k (f (block_at s k)) (same (block_at s k) ∙ length_part s (k * 512) 512 h) h

    pub byte-kept : (m : ℕ) → (m < k * 512) ⊎ (k * 512 + 512 ≤ m) → byte_at (on_block f s (k * 512)) m ≡ byte_at s m
    unfolding on_block
    byte-kept m (inl l) = byte-apart s (k * 512) (f (block_at s k)) m (inl l)
    byte-kept m (inr l) = byte-apart s (k * 512) (f (block_at s k)) m (inr (omega (arith, same (block_at s k), length-take 512 (drop (k * 512) s))))

    pub block-kept : (j : ℕ) → (j ≡ k → ⊥) → block_at (on_block f s (k * 512)) j ≡ block_at s j
    unfolding on_block
    block-kept j other = block_apart s k (f (block_at s k)) (omega (arith, same (block_at s k), length-take 512 (drop (k * 512) s))) j other

-- ---- a new block behind the book

pub grow-left : (s : List ℕ) (used : ℕ) (r : List ℕ) {blocks : ℕ} {bare b t u : List ℕ} → 512 ≤ length s
    → blocks ≡ trade_blocks s → bare ≡ bare_block (used / 512) → b ≡ with_record bare 0 r → t ≡ put s used b → u ≡ with_trade_blocks (part t 0 512) (blocks + 1)
    → take 0 t ++ (u ++ drop 512 (drop 0 t)) ≡ with_new_block s used r
unfolding with_new_block
grow-left s used r {blocks} {bare} {b} {t} h en ea eb et eu =
    let all : t ≡ put s used (with_record (bare_block (used / 512)) 0 r) = et ∙ rw (eb, ea) in
    block-left (λ (d : List ℕ). with_trade_blocks d (blocks + 1)) (length-with_trade_blocks (blocks + 1)) t 0 (rw (all, length-put) h) eu ∙ rw (en, all)

-- ---- records moved up

module _ (curves : ℕ) where
  -- places lie in the order of their positions
  pub places-apart : (i q : ℕ) → i < q → place_of curves i + 56 ≤ place_of curves q
  places-apart i q l = omega arith

  length_moved : (i : ℕ) (s : List ℕ) → length (record_moved curves i s) ≡ length s
  unfolding record_moved
  length_moved i s = length-put s (place_of curves i) (part s (place_of curves (i + 1)) 56)

  pub length-moves : (i n : ℕ) (s : List ℕ) → length (run (record_moved curves) i n s) ≡ length s
  length-moves i n s = run-kept (record_moved curves) length i n s (λ q t l h. length_moved q t)

  move-apart : (m i : ℕ) (s : List ℕ) → (m < place_of curves i) ⊎ (place_of curves i + 56 ≤ m) → byte_at (record_moved curves i s) m ≡ byte_at s m
  unfolding record_moved
  move-apart m i s (inl l) = byte-apart s (place_of curves i) (part s (place_of curves (i + 1)) 56) m (inl l)
  move-apart m i s (inr l) =
      byte-apart s (place_of curves i) (part s (place_of curves (i + 1)) 56) m (inr (omega (arith, length-take 56 (drop (place_of curves (i + 1)) s))))

  move-moved : (o i : ℕ) (s : List ℕ) → o < 56 → place_of curves (i + 1) + 56 ≤ length s
      → byte_at (record_moved curves i s) (place_of curves i + o) ≡ byte_at s (place_of curves (i + 1) + o)
  unfolding record_moved
  move-moved o i s b h =
      let n = length_part s (place_of curves (i + 1)) 56 h in
      let l = places-apart i (i + 1) (omega arith) in
      byte_put s (place_of curves i) (part s (place_of curves (i + 1)) 56) o (omega arith) (omega arith) ∙ byte-part s (place_of curves (i + 1)) 56 o b

  -- a byte that is in no place moved to stays
  pub moves-apart : (m i n : ℕ) (s : List ℕ) → ((q : ℕ) → i ≤ q → q < i + n → (m < place_of curves q) ⊎ (place_of curves q + 56 ≤ m))
      → byte_at (run (record_moved curves) i n s) m ≡ byte_at s m
  moves-apart m i n s apart = run-kept (record_moved curves) (λ t. byte_at t m) i n s (λ q t l h. move-apart m q t (apart q l h))

  -- byte o of the record at position q is that of the next
  pub moves-moved : (o q i n : ℕ) (s : List ℕ) → o < 56 → place_of curves (q + 1) + 56 ≤ length s → i ≤ q → q < i + n
      → byte_at (run (record_moved curves) i n s) (place_of curves q + o) ≡ byte_at s (place_of curves (q + 1) + o)
  moves-moved o q i n s b h l k =
      run-made (record_moved curves) (λ t. length t ≡ length s) (λ j t e. length_moved j t ∙ e) (λ t. byte_at t (place_of curves q + o)) (λ t. byte_at t (place_of curves (q + 1) + o)) q i n s refl l k
      (λ t e. move-moved o q t b (rw e h))
      (λ j t z. move-apart (place_of curves (q + 1) + o) j t (inr (omega (arith, places-apart j (q + 1) (omega arith)))))
      (λ j t z. move-apart (place_of curves q + o) j t (inl (omega (arith, places-apart q j z))))

-- ---- records cut off behind the n that are left

pub length-cut_back : (s : List ℕ) (used n : ℕ) → length (cut_back s used n) ≡ length s
unfolding cut_back
length-cut_back s used n = simp (length-on_block, length-set, length-put)

-- they end in the last block
pub end-within : (c n : ℕ) → ((1 + c + n / 9) * 512 ≤ end_of c n) × (end_of c n ≤ (1 + c + n / 9) * 512 + 512)
end-within c n = go (eqb (n % 9) 0)
  where
    go : (b : Bool) → ((1 + c + n / 9) * 512 ≤ cond b ((1 + c + n / 9) * 512) (place_of c n)) × (cond b ((1 + c + n / 9) * 512) (place_of c n) ≤ (1 + c + n / 9) * 512 + 512)
    go true = (omega arith, omega arith)
    go false = (omega arith, omega arith)

-- what is read then: before their end and behind the book what was there, zeros between, but for the count
pub record CutRead (s : List ℕ) (used n c : ℕ) : Type 0 where
  pub header : block_at (cut_back s used n) 0 ≡ with_trade_blocks (block_at s 0) (blocks_for n)
  pub apart : (m : ℕ) → 512 ≤ m → (m < end_of c n) ⊎ (used ≤ m) → (m ≡ used - 511 → ⊥) → byte_at (cut_back s used n) m ≡ byte_at s m
  pub blank : (m : ℕ) → end_of c n ≤ m → m < used → (m ≡ used - 511 → ⊥) → byte_at (cut_back s used n) m ≡ 0
  pub count : byte_at (cut_back s used n) (used - 511) ≡ n % 9

module _ (s : List ℕ) (used n c : ℕ) (curves : curve_count s ≡ c) (size : used ≡ (1 + c + n / 9) * 512 + 512) (lent : used ≤ length s) where
  abbrev end : ℕ
  end = end_of c n

  abbrev zeroed : List ℕ
  zeroed = put s end (replicate (used - end) 0)

  abbrev counted : List ℕ
  counted = set zeroed (used - 511) (n % 9)

  abbrev headed : List ℕ → List ℕ
  headed b = with_trade_blocks b (blocks_for n)

  is_cut : cut_back s used n ≡ on_block headed counted 0
  unfolding cut_back
  is_cut = rw curves

  blank-long : end + length (replicate {A = ℕ} (used - end) 0) ≡ used
  blank-long = omega (arith, length-replicate {A = ℕ} (used - end) 0, (end-within c n).1)

  length-counted : length counted ≡ length s
  length-counted = simp (length-set, length-put)

  byte-counted : (m : ℕ) → (m < end) ⊎ (used ≤ m) → (m ≡ used - 511 → ⊥) → byte_at counted m ≡ byte_at s m
  byte-counted m apart other = get_or-set_other zeroed (used - 511) m (n % 9) 0 other ∙ byte-apart s end (replicate (used - end) 0) m (rw blank-long apart)

  pub cut-read : CutRead s used n c
  cut-read =
      let least = (end-within c n).0 in
      let same = length-with_trade_blocks (blocks_for n) in
      let byte : (m : ℕ) → 512 ≤ m → byte_at (cut_back s used n) m ≡ byte_at counted m = λ m h. rw is_cut (byte-kept headed same counted 0 m (inr h)) in
      record {
        header =
            rw is_cut
            (block-changed headed same counted 0 (rw length-counted (omega arith))
            ∙ ap headed (part-kept counted s 0 512 length-counted (λ m l b. byte-counted m (inl (omega arith)) (λ e. omega arith))));
        apart = λ m h out other. byte m h ∙ byte-counted m out other;
        blank = λ m h l other.
            let e : m ≡ end + (m - end) = omega arith in
            byte m (omega arith)
            ∙ get_or-set_other zeroed (used - 511) m (n % 9) 0 other
            ∙ ap (byte_at zeroed) e
            ∙ byte_put s end (replicate (used - end) 0) (m - end) (rw blank-long lent) (omega (arith, blank-long))
            ∙ get_or-replicate (used - end) (m - end) 0 0 (omega arith);
        count = byte (used - 511) (omega arith) ∙ get_or-set_same zeroed (used - 511) (n % 9) 0 (rw length-put (omega arith));
      }

-- ---- blocks sealed

pub length-seals : (i n : ℕ) (s : List ℕ) → length (run block_sealed i n s) ≡ length s
length-seals i n s = run-kept block_sealed length i n s (λ k t l h. length-on_block sealed t (k * 512))

-- the others stay
pub seals-apart : (m i n : ℕ) (s : List ℕ) → (m < i * 512) ⊎ ((i + n) * 512 ≤ m) → byte_at (run block_sealed i n s) m ≡ byte_at s m
seals-apart m i n s apart = run-kept block_sealed (λ t. byte_at t m) i n s (λ k t l h. byte-kept sealed length-sealed t k m (side k l h apart))
  where
    side : (k : ℕ) → i ≤ k → k < i + n → (m < i * 512) ⊎ ((i + n) * 512 ≤ m) → (m < k * 512) ⊎ (k * 512 + 512 ≤ m)
    side k l h (inl b) = inl (omega arith)
    side k l h (inr b) = inr (omega arith)

pub seals-sealed : (k i n : ℕ) (s : List ℕ) → k * 512 + 512 ≤ length s → i ≤ k → k < i + n → block_at (run block_sealed i n s) k ≡ sealed (block_at s k)
seals-sealed k i n s h l m =
    run-made block_sealed (λ t. length t ≡ length s) (λ q t e. length-on_block sealed t (q * 512) ∙ e) (λ t. block_at t k) (λ t. sealed (block_at t k)) k i n s refl l m
    (λ t e. block-changed sealed length-sealed t k (rw e h))
    (λ q t z. ap sealed (block-kept sealed length-sealed t q k (λ e. omega arith)))
    (λ q t z. block-kept sealed length-sealed t q k (λ e. omega arith))
