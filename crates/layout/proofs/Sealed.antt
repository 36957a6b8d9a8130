-- The laws of the check and of the place.
use Rattle.std.proofs.Common.{◌≡◌, ℕ, zero, suc, ◌+◌, ◌*◌, ◌^◌, ◌<◌, ◌≤◌, false, ◌&&◌, eqb, ◌⊎◌, List, length, sym, refl, ◌∙◌, inl, mod-lt, arith, eq-eqb, eqb-true}
use borrow.Author.Tests.{not-false}
use Rattle.laws.proofs.Bools.{both}
use Rattle.layout.specs.Bytes.{byte_at, part, AreBytes}
use Rattle.layout.specs.Field.{number_at, u16_at, u32_at, bytes_of}
use Rattle.layout.specs.Check.{words, check_of, sealed, breaks_check, breaks_place}
use Rattle.layout.proofs.Bytes.{length-put, byte-apart, bytes-put, part_apart}
use Rattle.layout.proofs.Field.{field-same, field_apart, field_put, put-field, length-bytes, bytes-bytes}

-- ---- what the check reads

words_same : (n : ℕ) (b c : List ℕ) → ((k : ℕ) → k < n * 4 → byte_at b k ≡ byte_at c k) → words b n ≡ words c n
unfolding words
words_same zero b c same = refl
words_same (suc n) b c same =
    let before = words_same n b c (λ k l. same k (omega arith)) in
    let word = field-same 4 b (n * 4) c (n * 4) (λ k l. same (n * 4 + k) (omega arith)) in
    rw (before, word)

-- the check does not read bytes 508-511, nor what lies behind
pub check-same : (b c : List ℕ) → ((k : ℕ) → k < 508 → byte_at b k ≡ byte_at c k) → check_of b ≡ check_of c
unfolding check_of
check-same b c same = words_same 127 b c same

pub check-bound : (b : List ℕ) → check_of b < 2 ^ 32
unfolding check_of words
check-bound b = mod-lt _ (omega arith)

-- ---- sealing

-- it changes bytes 508-511 alone
pub length-sealed : (b : List ℕ) → length (sealed b) ≡ length b
unfolding sealed
length-sealed b = length-put b 508 (bytes_of 4 (check_of b))

pub bytes-sealed : (b : List ℕ) → AreBytes b → AreBytes (sealed b)
unfolding sealed
bytes-sealed b h = bytes-put b 508 (bytes_of 4 (check_of b)) h (bytes-bytes 4 (check_of b))

pub byte-sealed : (b : List ℕ) (k : ℕ) → (k < 508) ⊎ (512 ≤ k) → byte_at (sealed b) k ≡ byte_at b k
unfolding sealed
byte-sealed b k apart = byte-apart b 508 (bytes_of 4 (check_of b)) k (rw length-bytes apart)

pub field-sealed : (n : ℕ) (b : List ℕ) (k : ℕ) → k + n ≤ 508 → number_at n (sealed b) k ≡ number_at n b k
unfolding sealed
field-sealed n b k h = field_apart n b 508 (bytes_of 4 (check_of b)) k (inl h)

pub part-sealed : (b : List ℕ) (k n : ℕ) → 512 ≤ length b → k + n ≤ 508 → part (sealed b) k n ≡ part b k n
unfolding sealed
part-sealed b k n l h = part_apart b 508 (bytes_of 4 (check_of b)) k n (omega arith) (inl h)

pub check-sealed : (b : List ℕ) → check_of (sealed b) ≡ check_of b
check-sealed b = check-same (sealed b) b (λ k l. byte-sealed b k (inl l))

last_word : (b : List ℕ) → 512 ≤ length b → u32_at (sealed b) 508 ≡ check_of b
unfolding sealed
last_word b h = field_put 4 b 508 (check_of b) h (check-bound b)

-- a sealed block does not break the check
pub sealed-sound : (b : List ℕ) → 512 ≤ length b → breaks_check (sealed b) ≡ false
unfolding breaks_check
sealed-sound b h = rw (eq-eqb (u32_at (sealed b) 508) (check_of (sealed b)) (last_word b h ∙ sym (check-sealed b)))

pub check-kept : (b : List ℕ) → breaks_check b ≡ false → u32_at b 508 ≡ check_of b
unfolding breaks_check
check-kept b sound = eqb-true (u32_at b 508) (check_of b) (not-false (eqb (u32_at b 508) (check_of b)) sound)

-- and a block that does not break the check is sealed already
pub sound-sealed : (b : List ℕ) → AreBytes b → 512 ≤ length b → breaks_check b ≡ false → sealed b ≡ b
unfolding sealed
sound-sealed b bytes h sound = rw (← check-kept b sound) (put-field 4 b 508 bytes h)

-- ---- the place

pub place_kept : (b : List ℕ) (kind number : ℕ) → breaks_place b kind number ≡ false → (byte_at b 0 ≡ kind) × (u16_at b 2 ≡ number)
unfolding breaks_place
place_kept b kind number sound =
    let t = both (eqb (byte_at b 0) kind) (eqb (u16_at b 2) number) (not-false (eqb (byte_at b 0) kind && eqb (u16_at b 2) number) sound) in
    (eqb-true (byte_at b 0) kind t.0, eqb-true (u16_at b 2) number t.1)
