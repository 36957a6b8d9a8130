-- The laws of a number in plain decimal.
use mathlib.Core.Path.{◌≡◌, refl, sym, ◌∙◌, ap}
use mathlib.Core.Bool.{Bool, true, false, cond}
use mathlib.Core.List.{List, [], ◌∷◌, ◌++◌}
use Prim.Native.Nat.{ℕ, zero, suc, ◌+◌, ◌*◌, ◌/◌, ◌%◌, ◌^◌, ◌≤◌, ◌<◌}
use native.Mathlib.Nat.{pow-zero, pow-suc, one-le-pow}
use native.Mathlib.Decide.{dec_lt}
use native.Mathlib.Numerals.{add-one}
use native.Mathlib.Omega.{arith}
use borrow.Author.Tests.{lt-ltb, le-ltb, ltb-true}
use lib.Dec.{eqb, ltb}
use lib.IntN.{ℤ, pos, negsuc, nat_abs}
use lib.ListN.{length, set, length-append}
use lib.Signed.{lt_z}
use Rattle.layout.specs.Bytes.{put}
use Rattle.layout.proofs.Bytes.{put-none, last-first}
use Rattle.text.specs.Text.{ascii, digit, digits_within, decimal_of, with_sign, letters}

-- ---- one digit, or one more than its tenth

pub within-one : (k n : ℕ) → n < 10 → digits_within (suc k) n ≡ digit n ∷ []
unfolding digits_within
within-one k n h = rw (lt-ltb n 10 h)

pub within_more : (k n : ℕ) → 10 ≤ n → digits_within (suc k) n ≡ digits_within k (n / 10) ++ (digit (n % 10) ∷ [])
unfolding digits_within
within_more k n h = rw (le-ltb n 10 h)

pub decimal-one : (n : ℕ) → n < 10 → decimal_of n ≡ digit n ∷ []
unfolding decimal_of
decimal-one n h = within-one 19 n h

-- a digit that is not needed changes nothing
spare : (k n : ℕ) → n < 10 ^ suc k → digits_within (suc k) n ≡ digits_within (suc (suc k)) n
spare zero n h =
    let l : n < 10 = omega (arith, pow-suc 10 0, pow-zero 10) in
    within-one 0 n l ∙ sym (within-one 1 n l)
spare (suc k) n h = go (dec_lt n 10) (spare k (n / 10) (omega (arith, pow-suc 10 (suc k))))
  where
    go : Dec (n < 10) → digits_within (suc k) (n / 10) ≡ digits_within (suc (suc k)) (n / 10) → digits_within (suc (suc k)) n ≡ digits_within (suc (suc (suc k))) n
    go (yes l) ih = within-one (suc k) n l ∙ sym (within-one (suc (suc k)) n l)
    go (no l) ih =
        within_more (suc k) n (omega arith)
        ∙ ap (λ (s : List ℕ). s ++ (digit (n % 10) ∷ [])) ih
        ∙ sym (within_more (suc (suc k)) n (omega arith))

pub decimal-more : (n : ℕ) → 10 ≤ n → n < 2 ^ 64 → decimal_of n ≡ decimal_of (n / 10) ++ (digit (n % 10) ∷ [])
unfolding decimal_of
decimal-more n h l = within_more 19 n h ∙ ap (λ (s : List ℕ). s ++ (digit (n % 10) ∷ [])) (spare 18 (n / 10) (omega arith))

pub decimal-longer : (n : ℕ) → 10 ≤ n → n < 2 ^ 64 → length (decimal_of n) ≡ length (decimal_of (n / 10)) + 1
decimal-longer n h l = ap length (decimal-more n h l) ∙ length-append (decimal_of (n / 10)) (digit (n % 10) ∷ [])

-- ---- how long it is

-- a number of so many digits has no more, whatever room there is
length-within : (j k n : ℕ) → n < 10 ^ suc k → length (digits_within j n) ≤ suc k
unfolding digits_within
length-within zero k n h = omega arith
length-within (suc j) zero n h =
    let l : n < 10 = omega (arith, pow-suc 10 0, pow-zero 10) in
    rw (lt-ltb n 10 l) (omega arith)
length-within (suc j) (suc k) n h = go (ltb n 10) (length-within j k (n / 10) (omega (arith, pow-suc 10 (suc k))))
  where
    go : (t : Bool) → length (digits_within j (n / 10)) ≤ suc k → length (cond t (digit n ∷ []) (digits_within j (n / 10) ++ (digit (n % 10) ∷ []))) ≤ suc (suc k)
    go true ih = omega arith
    go false ih = rw length-append (omega arith)

pub length-below : (k n : ℕ) → n < 10 ^ suc k → length (decimal_of n) ≤ suc k
unfolding decimal_of
length-below k n h = length-within 20 k n h

room_within : (j n : ℕ) → length (digits_within j n) ≤ j
unfolding digits_within
room_within zero n = omega arith
room_within (suc j) n = go (ltb n 10) (room_within j (n / 10))
  where
    go : (t : Bool) → length (digits_within j (n / 10)) ≤ j → length (cond t (digit n ∷ []) (digits_within j (n / 10) ++ (digit (n % 10) ∷ []))) ≤ suc j
    go true ih = omega arith
    go false ih = rw length-append (omega arith)

pub length-decimal : (n : ℕ) → length (decimal_of n) ≤ 20
unfolding decimal_of
length-decimal n = room_within 20 n

-- a larger number has no fewer digits
some-within : (j n : ℕ) → 1 ≤ length (digits_within (suc j) n)
unfolding digits_within
some-within j n = go (ltb n 10)
  where
    go : (t : Bool) → 1 ≤ length (cond t (digit n ∷ []) (digits_within j (n / 10) ++ (digit (n % 10) ∷ [])))
    go true = omega arith
    go false = rw length-append (omega arith)

rises-within : (j n m : ℕ) → n ≤ m → length (digits_within j n) ≤ length (digits_within j m)
unfolding digits_within
rises-within zero n m h = omega arith
rises-within (suc j) n m h = go (dec_lt n 10) (dec_lt m 10) (some-within j m) (rises-within j (n / 10) (m / 10) (omega arith))
  where
    go : Dec (n < 10) → Dec (m < 10) → 1 ≤ length (digits_within (suc j) m) → length (digits_within j (n / 10)) ≤ length (digits_within j (m / 10)) → length (digits_within (suc j) n) ≤ length (digits_within (suc j) m)
    go (yes l) k some ih = rw (within-one j n l) some
    go (no l) (yes k) some ih = absurd (omega arith)
    go (no l) (no k) some ih = rw (within_more j n (omega arith), within_more j m (omega arith), length-append, length-append) (omega arith)

pub length-rises : (n m : ℕ) → n ≤ m → length (decimal_of n) ≤ length (decimal_of m)
unfolding decimal_of
length-rises n m h = rises-within 20 n m h

-- of so many digits where it lies between their powers of ten
length-least : (j k n : ℕ) → 10 ^ k ≤ n → k < j → suc k ≤ length (digits_within j n)
length-least zero k n h l = absurd (omega arith)
length-least (suc j) zero n h l = some-within j n
length-least (suc j) (suc k) n h l =
    let p = pow-suc 10 k in
    let some : 1 ≤ 10 ^ k = one-le-pow k 10 (omega arith) in
    let rest = length-least j k (n / 10) (omega arith) (omega arith) in
    rw (within_more j n (omega arith), length-append) (omega arith)

pub length-between : (k n : ℕ) → 10 ^ k ≤ n → n < 10 * 10 ^ k → k < 20 → length (decimal_of n) ≡ k + 1
unfolding decimal_of
length-between k n h l m = omega (arith, length-least 20 k n h m, length-within 20 k n (omega (arith, pow-suc 10 k)))

-- the last so many digits of a number, one by one
unfoldable pub last_digits : ℕ → ℕ → List ℕ
last_digits zero n = []
last_digits (suc k) n = last_digits k (n / 10) ++ (digit (n % 10) ∷ [])

pub length-last : (k n : ℕ) → length (last_digits k n) ≡ k
unfolding last_digits
length-last zero n = refl
length-last (suc k) n = omega (arith, length-append (last_digits k (n / 10)) (digit (n % 10) ∷ []), length-last k (n / 10))

-- the last one may be written first
pub digits-next : (s : List ℕ) (at k n : ℕ) → put s at (last_digits (suc k) n) ≡ put (set s (at + k) (digit (n % 10))) at (last_digits k (n / 10))
unfolding last_digits
digits-next s at k n = last-first s at (last_digits k (n / 10)) (digit (n % 10)) ∙ rw length-last

pub digits-none : (s : List ℕ) (at n : ℕ) → put s at (last_digits 0 n) ≡ s
unfolding last_digits
digits-none s at n = put-none s at

-- as many as it has are all
last-within : (j n : ℕ) → last_digits (length (digits_within j n)) n ≡ digits_within j n
unfolding last_digits digits_within
last-within zero n = refl
last-within (suc j) n = go (dec_lt n 10) (last-within j (n / 10))
  where
    go : Dec (n < 10) → last_digits (length (digits_within j (n / 10))) (n / 10) ≡ digits_within j (n / 10) → last_digits (length (digits_within (suc j) n)) n ≡ digits_within (suc j) n
    go (yes l) ih =
        let e : n % 10 ≡ n = omega arith in
        rw (within-one j n l, e)
    go (no l) ih =
        let more : 10 ≤ n = omega arith in
        rw (within_more j n more, length-append, add-one, ih)

pub last-all : (n : ℕ) → last_digits (length (decimal_of n)) n ≡ decimal_of n
unfolding decimal_of
last-all n = last-within 20 n

-- ---- with its sign

module _ (text : ℕ → List ℕ) where
  pub sign-negative : (z : ℤ) → lt_z z (pos 0) ≡ true → with_sign text z ≡ 45 ∷ text (nat_abs z)
  unfolding with_sign
  sign-negative (pos n) e = let l : n < 0 = ltb-true n 0 e in absurd (omega arith)
  sign-negative (negsuc n) e = refl

  pub sign-natural : (z : ℤ) → z ≡ pos (nat_abs z) → with_sign text z ≡ text (nat_abs z)
  unfolding with_sign
  sign-natural z e = ap (with_sign text) e

pub length-letters : (c : ℕ) → length (letters c) ≡ 3
unfolding letters ascii
length-letters c = go (eqb c 1) (eqb c 2) (eqb c 3)
  where
    go : (a b d : Bool) → length {A = ℕ} (cond a (84 ∷ 82 ∷ 89 ∷ []) (cond b (85 ∷ 83 ∷ 68 ∷ []) (cond d (69 ∷ 85 ∷ 82 ∷ []) (63 ∷ 63 ∷ 63 ∷ [])))) ≡ 3
    go true b d = refl
    go false true d = refl
    go false false true = refl
    go false false false = refl
