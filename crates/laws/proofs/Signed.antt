-- Signed arithmetic at 64 bits. The size of a number, nat_abs, is what `omega` reads: a bound on it shows that an operation fits, and that its bits read back
-- are the number again. Then what the code computes is `pos` or `neg_ℤ (pos ..)` of a natural number, by the signs.
use mathlib.Core.Path.{◌≡◌, refl, sym, ◌∙◌, ap}
use mathlib.Core.Bool.{Bool, true, false, cond}
use Prim.Native.Nat.{ℕ, zero, suc, ◌+◌, ◌-◌, ◌*◌, ◌/◌, ◌^◌, ◌≤◌, ◌<◌}
use native.Mathlib.Nat.{zero-div, zero-mul, mul-le-mul}
use native.Mathlib.Omega.{arith}
use lib.Dec.{T, ltb, ltb→lt, nltb→le}
use lib.IntN.{ℤ, pos, negsuc, neg_ℤ, nat_abs, sub_ℕ, ◌+ℤ◌, ◌-ℤ◌, ◌*ℤ◌}
use lib.Signed.{mag, non_neg, quot_z}
use mir.Syntax.{w64}
use mir.Val.{Fits, SFits, to_z, of_z}
use mir.Facts.{to_z-of_z, to_z_pos}

-- ---- what fits, and is read back

pub mag-abs : (z : ℤ) → mag z ≤ nat_abs z
mag-abs (pos n) = omega arith
mag-abs (negsuc n) = omega arith

pub fits : (z : ℤ) → nat_abs z < 2 ^ 63 → SFits w64 z
fits z h = record { sfits = omega (arith, mag-abs z) }

-- a number's bits read as signed, as after a cast; and an operation's result, read back from its bits
abbrev pub cast : ℕ → ℤ
cast n = to_z w64 n

abbrev pub read : ℤ → ℤ
read z = to_z w64 (of_z w64 z)

pub cast_is : (n : ℕ) → n < 2 ^ 63 → cast n ≡ pos n
cast_is n h = to_z_pos w64 h

pub read_is : (z : ℤ) → nat_abs z < 2 ^ 63 → read z ≡ z
read_is z h = to_z-of_z {w = w64} {z = z} (fits z h)

-- ---- the size of each operation's result

pub abs_neg : (z : ℤ) → nat_abs (neg_ℤ z) ≡ nat_abs z
abs_neg (pos zero) = refl
abs_neg (pos (suc n)) = refl
abs_neg (negsuc n) = refl

abs-minus : (a b : ℕ) → nat_abs (sub_ℕ a b) ≤ a + b
abs-minus a b = go (ltb a b) refl
  where
    go : (t : Bool) → ltb a b ≡ t → nat_abs (cond t (negsuc (b - suc a)) (pos (a - b))) ≤ a + b
    go true e = let l : a < b = ltb→lt a b (rw e tt) in omega arith
    go false e = omega arith

pub abs-add : (a b : ℤ) → nat_abs (a +ℤ b) ≤ nat_abs a + nat_abs b
abs-add (pos a) (pos b) = omega arith
abs-add (pos a) (negsuc b) = abs-minus a (suc b)
abs-add (negsuc a) (pos b) = omega (arith, abs-minus b (suc a))
abs-add (negsuc a) (negsuc b) = omega arith

pub abs-sub : (a b : ℤ) → nat_abs (a -ℤ b) ≤ nat_abs a + nat_abs b
abs-sub a b = omega (arith, abs-add a (neg_ℤ b), abs_neg b)

pub abs-mul : (a b : ℤ) → nat_abs (a *ℤ b) ≡ nat_abs a * nat_abs b
abs-mul (pos a) (pos b) = refl
abs-mul (pos a) (negsuc b) = abs_neg (pos (a * suc b))
abs-mul (negsuc a) (pos b) = abs_neg (pos (suc a * b))
abs-mul (negsuc a) (negsuc b) = refl

pub abs-quot : (a b : ℤ) → nat_abs (quot_z a b) ≡ nat_abs a / nat_abs b
abs-quot (pos a) (pos b) = refl
abs-quot (pos a) (negsuc b) = abs_neg (pos (a / suc b))
abs-quot (negsuc a) (pos b) = abs_neg (pos (suc a / b))
abs-quot (negsuc a) (negsuc b) = refl

-- ---- by the signs: what an operation is in ℕ

pub sub-up : (a b : ℕ) → b ≤ a → pos a -ℤ pos b ≡ pos (a - b)
sub-up a zero h = ap pos (omega arith)
sub-up a (suc b) h = go (ltb a (suc b)) refl
  where
    go : (t : Bool) → ltb a (suc b) ≡ t → cond t (negsuc (suc b - suc a)) (pos (a - suc b)) ≡ pos (a - suc b)
    go true e = let l : a < suc b = ltb→lt a (suc b) (rw e tt) in absurd (omega arith)
    go false e = refl

pub sub-down : (a b : ℕ) → a ≤ b → pos a -ℤ pos b ≡ neg_ℤ (pos (b - a))
sub-down a zero h = let z : a ≡ 0 = omega arith in rw z refl
sub-down a (suc b) h = go (ltb a (suc b)) refl
  where
    go : (t : Bool) → ltb a (suc b) ≡ t → cond t (negsuc (suc b - suc a)) (pos (a - suc b)) ≡ neg_ℤ (pos (suc b - a))
    go true e =
        let l : a < suc b = ltb→lt a (suc b) (rw e tt) in
        let s : suc b - a ≡ suc (suc b - suc a) = omega arith in
        rw s refl
    go false e =
        let l : suc b ≤ a = nltb→le a (suc b) (rw e tt) in
        let s : suc b - a ≡ 0 = omega arith in
        let t : a - suc b ≡ 0 = omega arith in
        rw (s, t) refl

pub mul-neg : (a b : ℕ) → neg_ℤ (pos a) *ℤ pos b ≡ neg_ℤ (pos (a * b))
mul-neg zero b = ap pos (zero-mul b) ∙ ap (λ (n : ℕ). neg_ℤ (pos n)) (sym (zero-mul b))
mul-neg (suc a) b = refl

pub quot-neg : (a b : ℕ) → quot_z (neg_ℤ (pos a)) (pos b) ≡ neg_ℤ (pos (a / b))
quot-neg zero b = ap pos (zero-div b) ∙ ap (λ (n : ℕ). neg_ℤ (pos n)) (sym (zero-div b))
quot-neg (suc a) b = refl

-- a product within the product of two bounds
pub abs-mul-le : (a b : ℤ) {m n : ℕ} → nat_abs a ≤ m → nat_abs b ≤ n → nat_abs (a *ℤ b) ≤ m * n
abs-mul-le a b p q = rw (abs-mul a b) (mul-le-mul p q)

-- what a call returned, read back from its bits: the bound is the call's `.ok`
pub back : (z : ℤ) → mag z < 2 ^ 63 → read z ≡ z
back z h = to_z-of_z {w = w64} {z = z} (record { sfits = h })

-- what a cast to u64 asks, of a number that is not negative
pub to-u64 : (z : ℤ) → z ≡ pos (nat_abs z) → nat_abs z < 2 ^ 63 → T (non_neg (read z)) × Fits w64 (nat_abs (read z))
to-u64 z e h = rw (read_is z h) (rw e tt, record { fits = omega arith })

-- what a test on z as it is read back says of z
pub tested : (z : ℤ) (f : ℤ → Bool) (t : Bool) → SFits w64 z → f (read z) ≡ t → f z ≡ t
tested z f t h e = ap f (sym (to_z-of_z {w = w64} {z = z} h)) ∙ e

-- and a test on two of them
pub compared : (f : ℤ → ℤ → Bool) (a b : ℤ) (t : Bool) → mag a < 2 ^ 63 → mag b < 2 ^ 63 → f (read a) (read b) ≡ t → f a b ≡ t
compared f a b t h k e = rw (back a h, back b k) at e
