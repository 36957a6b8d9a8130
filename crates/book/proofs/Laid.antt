-- The bytes of a block as `block` lays them out, and the blocks that have those bytes.
use mathlib.Core.Path.{◌≡◌, refl, sym, ap, ◌∙◌}
use mathlib.Core.Logic.{inl}
use mathlib.Core.Bool.{true, false}
use mathlib.Core.List.{List, [], ◌∷◌, ◌++◌, append_assoc, append-nil}
use Prim.Native.Nat.{ℕ, ◌+◌, ◌-◌, ◌≤◌, ◌<◌}
use native.Mathlib.Nat.{zero-add}
use native.Mathlib.Omega.{arith}
use borrow.Author.Tests.{eq-eqb}
use lib.ListN.{length, take, get_or, replicate, length-append, length-replicate, get_or-replicate, replicate-append-replicate, drop_of_length-le}
use lib.Seq.{get_or-take, take_at, drop_at, take-suc, get_or-append-add}
use Rattle.layout.specs.Bytes.{byte_at, part, zeros}
use Rattle.layout.specs.Field.{u16_at, bytes_of}
use Rattle.layout.specs.Check.{check_of, sealed, breaks_check, breaks_place}
use Rattle.layout.proofs.Bytes.{put-split, part-add, zeros_of, zeros-part}
use Rattle.layout.proofs.Field.{field-front, field-behind, length-bytes, number-bytes}
use Rattle.layout.proofs.Sealed.{check-same, length-sealed, byte-sealed, field-sealed, part-sealed, sealed-sound}
use Rattle.book.specs.Encode.{block}

-- ---- a block and its check

split-sealed : (b : List ℕ) → length b ≡ 512 → sealed b ≡ take 508 b ++ bytes_of 4 (check_of b)
unfolding sealed
split-sealed b h =
    let n = length-bytes 4 (check_of b) in
    let l : 508 + length (bytes_of 4 (check_of b)) ≤ length b = omega arith in
    let m : length b ≤ 508 + length (bytes_of 4 (check_of b)) = omega arith in
    put-split b 508 (bytes_of 4 (check_of b)) l ∙ rw (drop_of_length-le b m, append-nil)

-- two blocks that are the same before the check are the same once sealed
pub sealed-same : (b c : List ℕ) → length b ≡ 512 → length c ≡ 512 → take 508 b ≡ take 508 c → sealed b ≡ sealed c
sealed-same b c hb hc e =
    let sums =
    check-same b c (λ k l. sym (get_or-take 508 b k 0 l) ∙ ap (λ (x : List ℕ). get_or x k 0) e ∙ get_or-take 508 c k 0 l) in
    split-sealed b hb ∙ rw (e, sums) (sym (split-sealed c hc))

-- ---- what `block` lays out

module _ (kind count number : ℕ) (named : List ℕ) where
  abbrev front : List ℕ
  front = kind ∷ count ∷ bytes_of 2 number

  -- the block before its check is written
  abbrev unsealed : List ℕ
  unsealed = front ++ named ++ replicate (508 - length named) 0

  is_block : block kind count number named ≡ sealed unsealed
  unfolding block
  is_block = refl

  length_front : length front ≡ 4
  length_front = omega (arith, length-bytes 2 number)

  module _ (short : length named ≤ 504) where
    length_before : length unsealed ≡ 512
    length_before =
        simp (length-append, length-replicate) (omega (arith, length_front))

    pub length-block : length (block kind count number named) ≡ 512
    length-block = rw is_block (length-sealed unsealed ∙ length_before)

    pub block-kind : byte_at (block kind count number named) 0 ≡ kind
    block-kind = rw is_block (byte-sealed unsealed 0 (inl (omega arith)))

    pub block-count : byte_at (block kind count number named) 1 ≡ count
    block-count = rw is_block (byte-sealed unsealed 1 (inl (omega arith)))

    pub block-number : number < 65536 → u16_at (block kind count number named) 2 ≡ number
    block-number h =
        let behind = field-behind 2 (kind ∷ count ∷ []) (bytes_of 2 number ++ named ++ replicate (508 - length named) 0) 0 in
        let n = length-bytes 2 number in
        rw is_block
        (field-sealed 2 unsealed 2 (omega arith)
        ∙ behind
        ∙ rw (append_assoc (bytes_of 2 number) named (replicate (508 - length named) 0))
        (field-front 2 (bytes_of 2 number) (named ++ replicate (508 - length named) 0) 0 (omega arith))
        ∙ number-bytes 2 number h)

    pub block-numbered : part (block kind count number named) 2 2 ≡ bytes_of 2 number
    block-numbered =
        rw is_block
        (part-sealed unsealed 2 2 (omega (arith, length_before)) (omega arith)
        ∙ rw (append_assoc (bytes_of 2 number) named (replicate (508 - length named) 0))
        (take_at (bytes_of 2 number) (named ++ replicate (508 - length named) 0) 2 (length-bytes 2 number)))

    pub block-named : part (block kind count number named) 4 (length named) ≡ named
    block-named =
        rw is_block
        (part-sealed unsealed 4 (length named) (omega (arith, length_before)) (omega arith)
        ∙ rw (append_assoc front named (replicate (508 - length named) 0), drop_at front (named ++ replicate (508 - length named) 0) 4 length_front)
        (take_at named (replicate (508 - length named) 0) (length named) refl))

    pub block-zeros : zeros (block kind count number named) (4 + length named) 508 ≡ true
    block-zeros =
        zeros_of (block kind count number named) (4 + length named) 508
        (λ k l m.
        let e : k ≡ length (front ++ named) + (k - (4 + length named)) = omega (arith, length-append front named, length_front) in
        rw is_block
        (byte-sealed unsealed k (inl m)
        ∙ ap (byte_at unsealed) e
        ∙ get_or-append-add (front ++ named) (replicate (508 - length named) 0) (k - (4 + length named)) 0
        ∙ get_or-replicate (508 - length named) (k - (4 + length named)) 0 0 (omega arith)))

    pub block-checked : breaks_check (block kind count number named) ≡ false
    block-checked = rw is_block (sealed-sound unsealed (omega (arith, length_before)))

    pub block-placed : number < 65536 → breaks_place (block kind count number named) kind number ≡ false
    unfolding breaks_place
    block-placed h =
        rw (
          eq-eqb (byte_at (block kind count number named) 0) kind block-kind,
          eq-eqb (u16_at (block kind count number named) 2) number (block-number h),
        )

    -- ---- and which bytes, once sealed, are that block

    abbrev before : List ℕ
    before = front ++ named ++ replicate (504 - length named) 0

    unsealed-split : unsealed ≡ before ++ replicate 4 0
    unsealed-split =
        let e : 508 - length named ≡ (504 - length named) + 4 = omega arith in
        ap (λ (n : ℕ). front ++ named ++ replicate n 0) e
        ∙ ap (λ (l : List ℕ). front ++ named ++ l) (sym (replicate-append-replicate {A = ℕ} (504 - length named) 4 0))
        ∙ sym (append_assoc (front ++ named) (replicate (504 - length named) 0) (replicate 4 0))

    first-bytes : take 508 unsealed ≡ before
    first-bytes =
        let n : length before ≡ 508 =
        simp (length-append, length-replicate) (omega (arith, length_front)) in
        ap (take 508) unsealed-split ∙ take_at before (replicate 4 0) 508 n

    pub block_of : (b : List ℕ) → length b ≡ 512 → byte_at b 0 ≡ kind → byte_at b 1 ≡ count → part b 2 2 ≡ bytes_of 2 number
        → part b 4 (length named) ≡ named → zeros b (4 + length named) 508 ≡ true → sealed b ≡ block kind count number named
    block_of b h ek ec en eb ez = rw is_block (sealed-same b unsealed h length_before (first ∙ sym first-bytes))
      where
        two : take 2 b ≡ kind ∷ count ∷ []
        two = take-suc b 1 0 (omega arith) ∙ rw (take-suc b 0 0 (omega arith), ek, ec)

        four : part b 0 4 ≡ front
        four = part-add b 0 2 2 ∙ rw (two, en)

        rest : part b (4 + length named) (504 - length named) ≡ replicate (504 - length named) 0
        rest =
            let e : 4 + length named + (504 - length named) ≡ 508 = omega arith in
            zeros-part b (4 + length named) (504 - length named) (omega arith) (rw e ez)

        first : take 508 b ≡ before
        first =
            let e : 508 ≡ 4 + length named + (504 - length named) = omega arith in
            ap (λ (n : ℕ). part b 0 n) e
            ∙ part-add b 0 (4 + length named) (504 - length named)
            ∙ rw (part-add b 0 4 (length named), four, eb, zero-add, rest)
