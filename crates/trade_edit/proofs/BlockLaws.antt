-- What a block of trades holds with a record more, and a new one.
use mathlib.Core.Path.{◌≡◌, refl, sym, ◌∙◌}
use mathlib.Core.Logic.{inl, inr}
use mathlib.Core.List.{List, [], ◌∷◌, ◌++◌}
use Prim.Native.Nat.{ℕ, ◌+◌, ◌≤◌, ◌<◌}
use native.Mathlib.Decide.{dec_lt}
use native.Mathlib.Omega.{arith}
use lib.ListN.{length, get_or, set, replicate, length-append, length-set, length-replicate, get_or-replicate, get_or-append}
use lib.Seq.{get_or-set_same, get_or-set_other, get_or_at}
use Rattle.layout.specs.Bytes.{byte_at, part, put}
use Rattle.layout.specs.Field.{bytes_of}
use Rattle.layout.proofs.Bytes.{put_byte, length-put, byte-apart, part-put, part_apart, zeros-at, zeros_of}
use Rattle.layout.proofs.Field.{length-bytes}
use Rattle.book.specs.Parts.{record_place, record_in}
use Rattle.book.specs.Encode.{trade_block}
use Rattle.book.proofs.TradeBlock.{Holds, sealed-trades}
use Rattle.trade_edit.specs.Blocks.{with_record, bare_block}

module _ (b : List ℕ) (number : ℕ) (rs : List (List ℕ)) (h : Holds b number rs) (r : List ℕ) (long : length r ≡ 56) (room : length rs < 9) where
  abbrev n : ℕ
  n = length rs

  abbrev written : List ℕ
  written = put b (record_place n) r

  abbrev counted : List ℕ
  counted = set written 1 (n + 1)

  byte-counted : (k : ℕ) → (k ≡ 1 → ⊥) → byte_at counted k ≡ byte_at written k
  byte-counted k e = get_or-set_other written 1 k (n + 1) 0 e

  part-counted : (k w : ℕ) → 2 ≤ k → k + w ≤ 512 → part counted k w ≡ part written k w
  part-counted k w l e =
      rw (← put_byte written 1 (n + 1)) (part_apart written 1 ((n + 1) ∷ []) k w (rw length-put (omega (arith, h.long))) (inr l))

  -- before its place
  part-before : (k w : ℕ) → 2 ≤ k → k + w ≤ record_place n → part counted k w ≡ part b k w
  part-before k w l e = part-counted k w l (omega arith) ∙ part_apart b (record_place n) r k w (omega (arith, h.long)) (inl e)

  each : (i : ℕ) → i < n + 1 → Dec (i < n) → record_in counted i ≡ get_or (rs ++ r ∷ []) i []
  each i l (yes e) = part-before (record_place i) 56 (omega arith) (omega arith) ∙ h.each i e ∙ sym (get_or-append rs (r ∷ []) [] i e)
  each i l (no e) =
      let last : i ≡ n = omega arith in
      rw last
      (part-counted (record_place n) 56 (omega arith) (omega arith)
      ∙ rw long at (part-put b (record_place n) r (omega (arith, h.long)))
      ∙ sym (get_or_at rs r [] [] n refl))

  one_more : Holds counted number (rs ++ r ∷ [])
  one_more =
      let size : length (rs ++ r ∷ []) ≡ n + 1 = length-append rs (r ∷ []) in
      record {
        long = simp (length-set, length-put) h.long;
        kind = byte-counted 0 (λ z. omega arith) ∙ byte-apart b (record_place n) r 0 (inl (omega arith)) ∙ h.kind;
        count = get_or-set_same written 1 (n + 1) 0 (rw length-put (omega (arith, h.long))) ∙ sym size;
        numbered = part-before 2 2 (omega arith) (omega arith) ∙ h.numbered;
        each = λ i l. each i (rw size at l) (dec_lt i n);
        behind = zeros_of counted (record_place (length (rs ++ r ∷ []))) 508
            (λ k l m.
            byte-counted k (λ z. omega arith)
            ∙ byte-apart b (record_place n) r k (inr (omega arith))
            ∙ zeros-at b (record_place n) 508 h.behind k (omega arith) m);
      }

  pub added : with_record b n r ≡ trade_block number (rs ++ r ∷ [])
  unfolding with_record
  added = sealed-trades _ number (rs ++ r ∷ []) (omega (arith, length-append rs (r ∷ []))) one_more

pub bare-holds : (number : ℕ) → Holds (bare_block number) number []
unfolding bare_block
bare-holds number =
    let two = length-bytes 2 number in
    let first : List ℕ = set (replicate 512 0) 0 3 in
    let long : length first ≡ 512 = length-set {A = ℕ} (replicate 512 0) 0 3 ∙ length-replicate {A = ℕ} 512 0 in
    record {
      long = length-put first 2 (bytes_of 2 number) ∙ long;
      kind = byte-apart first 2 (bytes_of 2 number) 0 (inl (omega arith));
      count = byte-apart first 2 (bytes_of 2 number) 1 (inl (omega arith));
      numbered = rw two at (part-put first 2 (bytes_of 2 number) (omega arith));
      each = λ i l. absurd (omega arith);
      behind = zeros_of (put first 2 (bytes_of 2 number)) 4 508
          (λ k l m.
          byte-apart first 2 (bytes_of 2 number) k (inr (omega arith))
          ∙ get_or-set_other {A = ℕ} (replicate 512 0) 0 k 3 0 (λ z. omega arith)
          ∙ get_or-replicate {A = ℕ} 512 k 0 0 (omega arith));
    }
