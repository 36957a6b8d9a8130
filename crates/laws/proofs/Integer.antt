-- Integers for `omega`, which reads none: z is `up z` less `down z`, two numbers that stay shut, so that `omega` takes them as unknowns.
-- `omega (int, plus a b)` reads and proves `◌≤ℤ◌`, `◌<ℤ◌` and reads `Within`, given the law of each sum that matters.
use mathlib.Core.Path.{◌≡◌, refl}
use mathlib.Core.Logic.{◌↔◌}
use mathlib.Core.Bool.{Bool, true, false, cond}
use Prim.Native.Nat.{ℕ, zero, suc, ◌+◌, ◌-◌, ◌≤◌, ◌<◌}
use native.Mathlib.Omega.{arith}
use lib.Dec.{T, ltb, ltb→lt, nltb→le, leb→le, le→leb}
use lib.IntN.{ℤ, pos, negsuc, neg_ℤ, nat_abs, sub_ℕ, ◌+ℤ◌, ◌-ℤ◌}
use lib.Signed.{le_z, lt_z, ◌≤ℤ◌, ◌<ℤ◌, lt_z_yes, lt_z_no}
use Rattle.laws.specs.Distance.{Below, Within}

pub up : ℤ → ℕ
up (pos n) = n
up (negsuc n) = 0

pub down : ℤ → ℕ
down (pos n) = 0
down (negsuc n) = suc n

-- ---- what each operation is

pub up_pos : (n : ℕ) → up (pos n) ≡ n
unfolding up
up_pos n = refl

pub down_pos : (n : ℕ) → down (pos n) ≡ 0
unfolding down
down_pos n = refl

pub up_neg : (a : ℤ) → up (neg_ℤ a) ≡ down a
unfolding up down
up_neg (pos zero) = refl
up_neg (pos (suc n)) = refl
up_neg (negsuc n) = refl

pub down-neg : (a : ℤ) → down (neg_ℤ a) ≡ up a
unfolding up down
down-neg (pos zero) = refl
down-neg (pos (suc n)) = refl
down-neg (negsuc n) = refl

minus : (a b : ℕ) → up (sub_ℕ a b) + b ≡ a + down (sub_ℕ a b)
unfolding up down
minus a b = go (ltb a b) refl
  where
    go : (t : Bool) → ltb a b ≡ t → up (cond t (negsuc (b - suc a)) (pos (a - b))) + b ≡ a + down (cond t (negsuc (b - suc a)) (pos (a - b)))
    go true e = let l : a < b = ltb→lt a b (rw e tt) in omega arith
    go false e = let l : b ≤ a = nltb→le a b (rw e tt) in omega arith

pub plus : (a b : ℤ) → up (a +ℤ b) + (down a + down b) ≡ up a + up b + down (a +ℤ b)
unfolding up down
plus (pos a) (pos b) = omega arith
plus (pos a) (negsuc b) = omega (arith, minus a (suc b))
plus (negsuc a) (pos b) = omega (arith, minus b (suc a))
plus (negsuc a) (negsuc b) = omega arith

-- ---- the orders

pub le_read : (a b : ℤ) → a ≤ℤ b → up a + down b ≤ up b + down a
unfolding up down
le_read a b h = go a b h.le
  where
    go : (a b : ℤ) → T (le_z a b) → up a + down b ≤ up b + down a
    go (pos a) (pos b) t = omega (arith, leb→le a b t)
    go (pos a) (negsuc b) t = absurd t
    go (negsuc a) (pos b) t = omega arith
    go (negsuc a) (negsuc b) t = omega (arith, leb→le b a t)

pub le-show : (a b : ℤ) → up a + down b ≤ up b + down a → a ≤ℤ b
unfolding up down
le-show a b h = record { le = go a b h }
  where
    go : (a b : ℤ) → up a + down b ≤ up b + down a → T (le_z a b)
    go (pos a) (pos b) h = le→leb a b (omega arith)
    go (pos a) (negsuc b) h = absurd (omega arith)
    go (negsuc a) (pos b) h = tt
    go (negsuc a) (negsuc b) h = le→leb b a (omega arith)

pub lt-read : (a b : ℤ) → a <ℤ b → up a + down b < up b + down a
unfolding up down
lt-read a b h = go a b h.lt
  where
    go : (a b : ℤ) → T (lt_z a b) → up a + down b < up b + down a
    go (pos a) (pos b) t = omega (arith, ltb→lt a b t)
    go (pos a) (negsuc b) t = absurd t
    go (negsuc a) (pos b) t = omega arith
    go (negsuc a) (negsuc b) t = omega (arith, ltb→lt b a t)

pub lt-show : (a b : ℤ) → up a + down b < up b + down a → a <ℤ b
lt-show a b h = go (lt_z a b) refl
  where
    go : (t : Bool) → lt_z a b ≡ t → a <ℤ b
    go true e = lt_z_yes (rw e tt)
    go false e = let m : b ≤ℤ a = lt_z_no (rw e tt) in absurd (omega (arith, le_read b a m))

-- a test that failed
pub le_z-no : (a b : ℤ) → le_z a b ≡ false → b <ℤ a
le_z-no a b e = go (lt_z b a) refl
  where
    go : (t : Bool) → lt_z b a ≡ t → b <ℤ a
    go true q = lt_z_yes (rw q tt)
    go false q =
        let m : a ≤ℤ b = lt_z_no (rw q tt) in
        absurd (rw e at m.le)

-- ---- the distance

pub below-read : (a b : ℤ) (t : ℕ) → Below a b t → up a + down b ≤ up b + down a + t
below-read a b t h = omega (arith, le_read _ _ h.below, plus b (pos t), up_pos t, down_pos t)

pub below-show : (a b : ℤ) (t : ℕ) → up a + down b ≤ up b + down a + t → Below a b t
below-show a b t h = record { below = le-show a (b +ℤ pos t) (omega (arith, plus b (pos t), up_pos t, down_pos t)) }

pub ruleset int = (arith, le_read, le-show, lt-read, below-read, below-show)

pub abs-le : (z : ℤ) (t : ℕ) → (nat_abs z ≤ t) ↔ ((up z ≤ down z + t) × (down z ≤ up z + t))
unfolding up down
abs-le (pos n) t = omega arith
abs-le (negsuc n) t = omega arith

pub within-abs : (a b : ℤ) (t : ℕ) → Within a b t ↔ (nat_abs (a -ℤ b) ≤ t)
within-abs a b t = (λ w. (abs-le (a -ℤ b) t).1 (omega (int, plus a (neg_ℤ b), up_neg b, down-neg b)), λ h. back ((abs-le (a -ℤ b) t).0 h))
  where
    back : (up (a -ℤ b) ≤ down (a -ℤ b) + t) × (down (a -ℤ b) ≤ up (a -ℤ b) + t) → Within a b t
    back h = omega (int, plus a (neg_ℤ b), up_neg b, down-neg b)
