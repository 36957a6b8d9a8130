-- The bytes of an accepted book with a record more.
use mathlib.Core.Path.{◌≡◌, sym, ◌∙◌, ap}
use mathlib.Core.Logic.{inr}
use mathlib.Core.List.{List, [], ◌∷◌, ◌++◌}
use Prim.Native.Nat.{ℕ, ◌+◌, ◌-◌, ◌*◌, ◌/◌, ◌%◌, ◌≤◌, ◌<◌}
use native.Mathlib.Decide.{dec_lt}
use native.Mathlib.Omega.{arith}
use lib.ListN.{length, get_or, drop, length-append, length-drop, get_or-append, drop_of_length-le}
use lib.Seq.{take_all, take-append-le, drop-append-le, get_or_at}
use Rattle.std.specs.Prelude.{Ok}
use Rattle.laws.proofs.Tables.{Each}
use Rattle.layout.specs.Bytes.{byte_at, put, on_block, AreBytes}
use Rattle.layout.proofs.Bytes.{length-put, byte-apart, drop-kept, bytes-part}
use Rattle.book.specs.Parts.{block_at, header_of, curve_count, trade_blocks, trade_count, records}
use Rattle.book.specs.Verdict.{blocks_verdict}
use Rattle.book.specs.Encode.{header_block, trade_block, blocks_for, records_of_block}
use Rattle.book.proofs.Places.{head-fields, head-curves, curve-block, block-put, block_apart}
use Rattle.book.proofs.Accepted.{sound, length-block_at}
use Rattle.book.proofs.HeaderBlock.{header-recounted}
use Rattle.book.proofs.TradeBlock.{Holds}
use Rattle.book.proofs.Encoded.{length-nine}
use Rattle.book.proofs.Canonical.{header-block, trade-block}
use Rattle.trade_edit.specs.Blocks.{with_record, bare_block, with_trade_blocks, with_new_block}
use Rattle.trade_edit.proofs.BlockLaws.{added, bare-holds}
use Rattle.trade_edit.proofs.StepLaws.{length-with_record, length-with_trade_blocks, length-on_block, block-changed, block-kept, byte-kept}
use Rattle.edit.specs.Edits.{appended_book}
use Rattle.edit.proofs.Books.{Sized, sized, trades-held, relaid}

module _ (rs : List (List ℕ)) (r : List ℕ) where
  pub length-one-more : length (rs ++ r ∷ []) ≡ length rs + 1
  length-one-more = length-append rs (r ∷ [])

  pub each_more : Each 56 rs → length r ≡ 56 → Each 56 (rs ++ r ∷ [])
  each_more each long k l = go (dec_lt k (length rs))
    where
      go : Dec (k < length rs) → length (get_or (rs ++ r ∷ []) k []) ≡ 56
      go (yes b) = rw (get_or-append rs (r ∷ []) [] k b) (each k b)
      go (no b) = rw (get_or_at rs r [] [] k (omega (arith, length-one-more))) long

  -- nine to a block: the full blocks stay, and the record joins the last
  pub nine-full : (j : ℕ) → j * 9 + 9 ≤ length rs → records_of_block (rs ++ r ∷ []) j ≡ records_of_block rs j
  nine-full j h =
      let l : j * 9 ≤ length rs = omega arith in
      let m : 9 ≤ length (drop (j * 9) rs) = rw length-drop (omega arith) in
      rw (drop-append-le (j * 9) rs (r ∷ []) l) (take-append-le 9 (drop (j * 9) rs) (r ∷ []) m)

  pub nine-last : (j : ℕ) → j * 9 ≤ length rs → length rs < j * 9 + 9 → records_of_block (rs ++ r ∷ []) j ≡ records_of_block rs j ++ r ∷ []
  nine-last j l h =
      let m : length (drop (j * 9) rs) ≤ 9 = rw length-drop (omega arith) in
      let n : length (drop (j * 9) rs ++ r ∷ []) ≤ 9 = omega (arith, length-append (drop (j * 9) rs) (r ∷ []), length-drop (j * 9) rs) in
      rw (drop-append-le (j * 9) rs (r ∷ []) l, take_all 9 (drop (j * 9) rs ++ r ∷ []) n, take_all 9 (drop (j * 9) rs) m)

-- the header of an accepted book, with another count
pub header-counted : (s : List ℕ) (used : ℕ) → AreBytes s → blocks_verdict s used ≡ Ok tt → (t : ℕ) → t < 65536
    → with_trade_blocks (block_at s 0) t ≡ header_block (header_of s) (curve_count s) t
unfolding with_trade_blocks
header-counted s used bytes ok t few =
    let b = sound s used ok in
    header-recounted (block_at s 0) (1 + curve_count s + trade_blocks s) (bytes-part s (0 * 512) 512 bytes) (length-block_at s used b 0 (omega arith)) b.header t few
    ∙ rw (head-fields s, head-curves s)

module _ (s : List ℕ) (used : ℕ) (bytes : AreBytes s) (ok : blocks_verdict s used ≡ Ok tt) (r : List ℕ) (long : length r ≡ 56) where
  abbrev rs : List (List ℕ)
  rs = records s

  abbrev c : ℕ
  c = curve_count s

  -- the record's block
  abbrev u : ℕ
  u = trade_count s / 9

  abbrev k : ℕ
  k = 1 + c + u

  z : Sized s used
  z = sized s used bytes ok

  -- the last block, with the record behind its others
  new-block : (b : List ℕ) → Holds b k (records_of_block rs u) → with_record b (trade_count s % 9) r ≡ trade_block k (records_of_block (rs ++ r ∷ []) u)
  new-block b h =
      let n : trade_count s % 9 ≡ length (records_of_block rs u) = omega (arith, length-nine rs u, z.trade-count) in
      ap (λ (m : ℕ). with_record b m r) n
      ∙ added b k (records_of_block rs u) h r long (omega arith)
      ∙ rw (nine-last rs r u (omega (arith, z.trade-count)) (omega (arith, z.trade-count)))

  -- what an append leaves, where n bytes are used then
  abbrev pub Appended : ℕ → List ℕ → Type 0
  Appended n t = (n ≡ length (appended_book s r)) × (t ≡ appended_book s r ++ drop (length (appended_book s r)) s)

  appended-by : (t : List ℕ) → length t ≡ length s → k * 512 + 512 ≤ length s → block_at t 0 ≡ header_block (header_of s) c (u + 1)
      → ((j : ℕ) → 1 ≤ j → j < k → block_at t j ≡ block_at s j) → block_at t k ≡ trade_block k (records_of_block (rs ++ r ∷ []) u)
      → ((m : ℕ) → k * 512 + 512 ≤ m → byte_at t m ≡ byte_at s m) → Appended (k * 512 + 512) t
  unfolding appended_book
  appended-by t same fits head others last behind =
      let count : blocks_for (length (rs ++ r ∷ [])) ≡ u + 1 = omega (arith, length-one-more rs r, z.trade-count) in
      let n : (1 + c + (u + 1)) * 512 ≡ k * 512 + 512 = omega arith in
      let all = relaid s (rs ++ r ∷ []) t (drop (k * 512 + 512) s) (rw count head) (λ i l. others (1 + i) (omega arith) (omega arith) ∙ sym (curve-block s i l)) (λ j l. trade j (rw count at l) (dec_lt j u))
      (rw (count, n) (drop-kept t s (k * 512 + 512) same behind)) in
      let size : k * 512 + 512 ≡ length (appended_book s r) = omega (arith, ap length all, length-append (appended_book s r) (drop (k * 512 + 512) s), length-drop (k * 512 + 512) s) in
      (size, all ∙ ap (λ (m : ℕ). appended_book s r ++ drop m s) size)
    where
      trade : (j : ℕ) → j < u + 1 → Dec (j < u) → block_at t (1 + c + j) ≡ trade_block (1 + c + j) (records_of_block (rs ++ r ∷ []) j)
      trade j l (yes h) =
          others (1 + c + j) (omega arith) (omega arith)
          ∙ sym (trade-block s used bytes (sound s used ok) j (omega (arith, z.trade-blocks)))
          ∙ rw (nine-full rs r j (omega (arith, z.trade-count)))
      trade j l (no h) = let e : j ≡ u = omega arith in rw e last

  -- in the last block
  abbrev filled : List ℕ → List ℕ
  filled b = with_record b (trade_count s % 9) r

  pub filled-lent : (trade_count s % 9 ≡ 0 → ⊥) → Appended used (on_block filled s (used - 512))
  filled-lent some =
      let size : used ≡ k * 512 + 512 = omega (arith, z.size) in
      let at : used - 512 ≡ k * 512 = omega arith in
      let same = length-with_record (trade_count s % 9) r in
      let count : trade_blocks s ≡ u + 1 = omega (arith, z.trade-blocks) in
      rw (at, size)
      (appended-by (on_block filled s (k * 512)) (length-on_block filled s (k * 512)) (omega (arith, z.lent))
      (block-kept filled same s k 0 (λ e. omega arith) ∙ header-block s used bytes (sound s used ok) ∙ rw count)
      (λ j l h. block-kept filled same s k j (λ e. omega arith))
      (block-changed filled same s k (omega (arith, z.lent)) ∙ new-block (block_at s k) (trades-held s used bytes ok u (omega arith)))
      (λ m h. byte-kept filled same s k m (inr h)))

  -- in a new one
  pub new-block-lent : trade_count s % 9 ≡ 0 → used + 512 ≤ length s → Appended (used + 512) (with_new_block s used r)
  unfolding with_new_block
  new-block-lent full room =
      let at : used ≡ k * 512 = omega (arith, z.size) in
      let number : used / 512 ≡ k = omega arith in
      let count : trade_blocks s ≡ u = omega (arith, z.trade-blocks) in
      let past : length rs ≤ u * 9 = omega (arith, z.trade-count) in
      let none : records_of_block rs u ≡ [] = rw (drop_of_length-le rs past) in
      let new = with_record (bare_block k) 0 r in
      let size : length new ≡ 512 = length-with_record 0 r (bare_block k) ∙ (bare-holds k).long in
      let longer = put s (k * 512) new in
      let same = length-with_trade_blocks (u + 1) in
      let counted : List ℕ → List ℕ = λ b. with_trade_blocks b (u + 1) in
      rw (number, count, at)
      (appended-by (on_block counted longer 0) (length-on_block counted longer 0 ∙ length-put s (k * 512) new) (omega arith)
      (block-changed counted same longer 0 (rw length-put (omega arith))
      ∙ rw (block_apart s k new (omega (arith, size)) 0 (λ e. omega arith)) (header-counted s used bytes ok (u + 1) (omega (arith, z.size, z.limit))))
      (λ j l h. block-kept counted same longer 0 j (λ e. omega arith) ∙ block_apart s k new (omega (arith, size)) j (λ e. omega arith))
      (block-kept counted same longer 0 k (λ e. omega arith) ∙ block-put s k new size (omega arith) ∙ (rw full at (new-block (bare_block k) (rw none (bare-holds k)))))
      (λ m h. byte-kept counted same longer 0 m (inr (omega arith)) ∙ byte-apart s (k * 512) new m (inr (rw size h))))
