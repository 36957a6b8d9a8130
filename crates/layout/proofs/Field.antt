-- The laws of fields, over the width.
use Rattle.std.proofs.Common.{◌≡◌, ℕ, zero, suc, ◌+◌, ◌-◌, ◌*◌, ◌/◌, ◌%◌, ◌^◌, ◌<◌, ◌≤◌, Bool, true, false, cond, ltb, ◌⊎◌, List, [], ◌∷◌, ◌++◌, length, set, ℤ, pos, negsuc, ◌-ℤ◌, sym, refl, ap, ◌∙◌, inl, inr, add-zero, zero-add, one-mul, pow-suc, arith, drop-cons, get_or-append-add, pow-add, le-ltb, lt-ltb}
use native.Mathlib.Nat.{pow-zero, two-pow-succ, one-le-pow}
use lib.Signed.{mag}
use lib.ListN.{get_or-append}
use Rattle.laws.proofs.Signed.{sub-down}
use Rattle.laws.proofs.Powers.{pow-mul}
use Rattle.layout.specs.Bytes.{byte_at, part, put, AreBytes}
use Rattle.layout.specs.Field.{number_at, bytes_of, signed_of, twos}
use Rattle.layout.proofs.Bytes.{byte-apart, byte_put, byte-part, put-part}

-- ---- a field is its bytes

pub field-same : (n : ℕ) (s : List ℕ) (at : ℕ) (t : List ℕ) (place : ℕ)
    → ((k : ℕ) → k < n → byte_at s (at + k) ≡ byte_at t (place + k)) → number_at n s at ≡ number_at n t place
unfolding number_at
field-same zero s at t place same = refl
field-same (suc n) s at t place same =
    let low : byte_at s at ≡ byte_at t place = simp add-zero at (same 0 (omega arith)) in
    let high = field-same n s (suc at) t (suc place) (λ k l. ap (byte_at s) (omega arith) ∙ same (suc k) (omega arith) ∙ ap (byte_at t) (omega arith)) in
    rw (low, high)

-- and its number determines them
pub field-determines : (n : ℕ) (s : List ℕ) (at : ℕ) (t : List ℕ) (place : ℕ) → AreBytes s → AreBytes t
    → number_at n s at ≡ number_at n t place → (k : ℕ) → k < n → byte_at s (at + k) ≡ byte_at t (place + k)
unfolding number_at
field-determines zero s at t place hs ht e k l = absurd (omega arith)
field-determines (suc n) s at t place hs ht e zero l = rw (add-zero at, add-zero place) (omega (arith, hs at, ht place))
field-determines (suc n) s at t place hs ht e (suc k) l =
    let rest : number_at n s (suc at) ≡ number_at n t (suc place) = omega (arith, hs at, ht place) in
    ap (byte_at s) (omega arith) ∙ field-determines n s (suc at) t (suc place) hs ht rest k (omega arith) ∙ ap (byte_at t) (omega arith)

pub field-byte : (s : List ℕ) (at : ℕ) → number_at 1 s at ≡ byte_at s at
unfolding number_at
field-byte s at = omega arith

-- a field of m + n bytes: the low m, and the n behind them
pub field-add : (m n : ℕ) (s : List ℕ) (at : ℕ) → number_at (m + n) s at ≡ number_at m s at + 256 ^ m * number_at n s (at + m)
unfolding number_at
field-add zero n s at = simp (zero-add, pow-zero, add-zero, one-mul)
field-add (suc m) n s at =
    let e : suc m + n ≡ suc (m + n) = omega arith in
    let f : at + suc m ≡ suc at + m = omega arith in
    rw (e, f, pow-suc, field-add m n s (suc at)) (omega arith)

pub field_bound : (n : ℕ) (s : List ℕ) (at : ℕ) → AreBytes s → number_at n s at < 256 ^ n
unfolding number_at
field_bound zero s at h = rw pow-zero (omega arith)
field_bound (suc n) s at h = rw pow-suc (omega (arith, h at, field_bound n s (suc at) h))

pub field-part : (n : ℕ) (s : List ℕ) (at m k : ℕ) → k + n ≤ m → number_at n (part s at m) k ≡ number_at n s (at + k)
field-part n s at m k h =
    field-same n (part s at m) k s (at + k) (λ j b. byte-part s at m (k + j) (omega arith) ∙ ap (byte_at s) (omega arith))

pub field-front : (n : ℕ) (s t : List ℕ) (k : ℕ) → k + n ≤ length s → number_at n (s ++ t) k ≡ number_at n s k
field-front n s t k h = field-same n (s ++ t) k s k (λ j b. get_or-append s t 0 (k + j) (omega arith))

pub field-behind : (n : ℕ) (s t : List ℕ) (k : ℕ) → number_at n (s ++ t) (length s + k) ≡ number_at n t k
field-behind n s t k =
    field-same n (s ++ t) (length s + k) t k (λ j b. ap (byte_at (s ++ t)) (omega arith) ∙ get_or-append-add s t (k + j) 0)

-- ---- a number's bytes

pub length-bytes : (n v : ℕ) → length (bytes_of n v) ≡ n
unfolding bytes_of
length-bytes zero v = refl
length-bytes (suc n) v = ap suc (length-bytes n (v / 256))

pub bytes-bytes : (n v : ℕ) → AreBytes (bytes_of n v)
unfolding bytes_of
bytes-bytes zero v k = omega arith
bytes-bytes (suc n) v zero = omega arith
bytes-bytes (suc n) v (suc k) = bytes-bytes n (v / 256) k

-- the number of its bytes is the number
pub number-bytes : (n v : ℕ) → v < 256 ^ n → number_at n (bytes_of n v) 0 ≡ v
unfolding number_at bytes_of
number-bytes zero v h = let e = pow-zero 256 in omega arith
number-bytes (suc n) v h =
    let e = pow-suc 256 n in
    let rest = number-bytes n (v / 256) (omega arith) in
    rw (field-behind n (v % 256 ∷ []) (bytes_of n (v / 256)) 0, rest) (omega arith)

-- and the bytes of a field's number are the field's bytes
pub bytes-number : (n : ℕ) (s : List ℕ) (at : ℕ) → AreBytes s → at + n ≤ length s → bytes_of n (number_at n s at) ≡ part s at n
unfolding number_at bytes_of
bytes-number zero s at h l = refl
bytes-number (suc n) s at h l =
    let in_list : at < length s = omega arith in
    let low : (byte_at s at + 256 * number_at n s (suc at)) % 256 ≡ byte_at s at = omega (arith, h at) in
    let high : (byte_at s at + 256 * number_at n s (suc at)) / 256 ≡ number_at n s (suc at) = omega (arith, h at) in
    rw (low, high, drop-cons s at 0 in_list) (ap (λ (r : List ℕ). byte_at s at ∷ r) (bytes-number n s (suc at) h (omega arith)))

-- ---- a field written

-- a field of what was written
pub field-of-put : (n : ℕ) (s : List ℕ) (at : ℕ) (bs : List ℕ) (k : ℕ) → at + length bs ≤ length s → k + n ≤ length bs → number_at n (put s at bs) (at + k) ≡ number_at n bs k
field-of-put n s at bs k h l =
    field-same n (put s at bs) (at + k) bs k (λ j b. ap (byte_at (put s at bs)) (omega arith) ∙ byte_put s at bs (k + j) h (omega arith))

-- a field that was written is read back
pub field_put : (n : ℕ) (s : List ℕ) (at v : ℕ) → at + n ≤ length s → v < 256 ^ n → number_at n (put s at (bytes_of n v)) at ≡ v
field_put n s at v h b =
    let e = length-bytes n v in
    ap (number_at n (put s at (bytes_of n v))) (sym (add-zero at))
    ∙ field-of-put n s at (bytes_of n v) 0 (omega arith) (omega arith)
    ∙ number-bytes n v b

-- a field apart from what was written is as it was
pub field_apart : (n : ℕ) (s : List ℕ) (at : ℕ) (bs : List ℕ) (k : ℕ) → (k + n ≤ at) ⊎ (at + length bs ≤ k) → number_at n (put s at bs) k ≡ number_at n s k
field_apart n s at bs k (inl h) = field-same n (put s at bs) k s k (λ j b. byte-apart s at bs (k + j) (inl (omega arith)))
field_apart n s at bs k (inr h) = field-same n (put s at bs) k s k (λ j b. byte-apart s at bs (k + j) (inr (omega arith)))

-- a field written as it stands changes nothing
pub put-field : (n : ℕ) (s : List ℕ) (at : ℕ) → AreBytes s → at + n ≤ length s → put s at (bytes_of n (number_at n s at)) ≡ s
put-field n s at h l = rw (bytes-number n s at h l) (put-part s at n l)

-- what is left to write after a byte, and after the last
pub put_next : (s : List ℕ) (at n v : ℕ) → 0 < n → put s at (bytes_of n v) ≡ put (set s at (v % 256)) (suc at) (bytes_of (n - 1) (v / 256))
unfolding put bytes_of
put_next s at zero v h = absurd (omega arith)
put_next s at (suc n) v h = let e : suc n - 1 ≡ n = omega arith in rw e refl

pub put_last : (s : List ℕ) (at n v : ℕ) → n ≡ 0 → put s at (bytes_of n v) ≡ s
unfolding put bytes_of
put_last s at n v h = rw h refl

-- ---- signed fields

-- the number of so many bits that stands for a signed one
unsigned : ℕ → ℤ → ℕ
unsigned bits (pos n) = n
unsigned bits (negsuc n) = 2 ^ bits - suc n

module _ (bits : ℕ) where
  unsigned_signed : (n : ℕ) → n < 2 ^ bits → unsigned bits (signed_of bits n) ≡ n
  unfolding unsigned signed_of
  unsigned_signed n h = go (ltb n (2 ^ (bits - 1)))
    where
      go : (t : Bool) → unsigned bits (cond t (pos n) (pos n -ℤ pos (2 ^ bits))) ≡ n
      go true = refl
      go false =
          let e : 2 ^ bits - n ≡ suc (2 ^ bits - n - 1) = omega arith in
          rw (sub-down n (2 ^ bits) (omega arith), e) (omega arith)

  -- a signed field determines its bits
  pub signed-determines : (m n : ℕ) → m < 2 ^ bits → n < 2 ^ bits → signed_of bits m ≡ signed_of bits n → m ≡ n
  signed-determines m n hm hn e = sym (unsigned_signed m hm) ∙ ap (unsigned bits) e ∙ unsigned_signed n hn

  halves : 0 < bits → 2 ^ bits ≡ 2 ^ (bits - 1) + 2 ^ (bits - 1)
  halves h = let e : bits ≡ suc (bits - 1) = omega arith in ap (λ (n : ℕ). 2 ^ n) e ∙ two-pow-succ (bits - 1)

  unsigned-bound : (z : ℤ) → 0 < bits → mag z < 2 ^ (bits - 1) → unsigned bits z < 2 ^ bits
  unfolding unsigned
  unsigned-bound (pos n) some h = omega (arith, halves some)
  unsigned-bound (negsuc n) some h = omega (arith, halves some)

  -- and a number that its bits have room for is read back
  signed-unsigned : (z : ℤ) → 0 < bits → mag z < 2 ^ (bits - 1) → signed_of bits (unsigned bits z) ≡ z
  unfolding unsigned signed_of
  signed-unsigned (pos n) some h = rw (lt-ltb n (2 ^ (bits - 1)) h)
  signed-unsigned (negsuc n) some h =
      let e = halves some in
      let back : 2 ^ bits - (2 ^ bits - suc n) ≡ suc n = omega arith in
      rw (le-ltb (2 ^ bits - suc n) (2 ^ (bits - 1)) (omega arith)) (sub-down (2 ^ bits - suc n) (2 ^ bits) (omega arith) ∙ rw back)

-- the low bytes of a number do not see what lies above them
bytes_low : (n v q : ℕ) → bytes_of n (v + q * 256 ^ n) ≡ bytes_of n v
unfolding bytes_of
bytes_low zero v q = refl
bytes_low (suc n) v q =
    let low : (v + q * 256 ^ suc n) % 256 ≡ v % 256 = rw pow-suc (omega arith) in
    let high : (v + q * 256 ^ suc n) / 256 ≡ v / 256 + q * 256 ^ n = rw pow-suc (omega arith) in
    rw (low, high, bytes_low n (v / 256) q)

-- a number less k, where k reaches no higher than its low part
above : (low high k all : ℕ) → high * low ≡ all → k ≤ low → 1 ≤ high → all - k ≡ (low - k) + (high - 1) * low
above low zero k all e h l = absurd (omega arith)
above low (suc high) k all e h l = let p : suc high - 1 ≡ high = omega arith in rw p (omega arith)

-- so those of its 64 bits are those of the bits of its width
bytes-twos : (n : ℕ) (z : ℤ) → n ≤ 8 → mag z < 256 ^ n → bytes_of n (twos z) ≡ bytes_of n (unsigned (8 * n) z)
unfolding twos unsigned
bytes-twos n (pos k) h b = refl
bytes-twos n (negsuc k) h b =
    let whole : (8 - n) + n ≡ 8 = omega arith in
    let e : 256 ^ (8 - n) * 256 ^ n ≡ 2 ^ 64 = sym (pow-add 256 (8 - n) n) ∙ ap (λ (m : ℕ). 256 ^ m) whole in
    rw (above (256 ^ n) (256 ^ (8 - n)) (suc k) (2 ^ 64) e (omega arith) (one-le-pow (8 - n) 256 (omega arith)), bytes_low, pow-mul 2 8 n)

-- the low bytes of a signed number's two's complement stand for it, at every width that has room for it
pub signed-bytes : (n : ℕ) (z : ℤ) → 0 < n → n ≤ 8 → mag z < 2 ^ (8 * n - 1) → signed_of (8 * n) (number_at n (bytes_of n (twos z)) 0) ≡ z
signed-bytes n z some most h =
    let all = unsigned-bound (8 * n) z (omega arith) h in
    let e = pow-mul 2 8 n in
    rw (bytes-twos n z most (omega (arith, halves (8 * n) (omega arith))), number-bytes n (unsigned (8 * n) z) (omega arith))
    (signed-unsigned (8 * n) z (omega arith) h)
