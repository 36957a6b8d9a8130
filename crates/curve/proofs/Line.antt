-- The line from a rate r to a rate s, in ℕ: its rate g days on, of n in all. A rising line is rounded down and a falling one up, so it stays between
-- its ends, and it does not fall where an end rises.
use mathlib.Core.Path.{◌≡◌, refl}
use mathlib.Core.Bool.{Bool, true, false, cond}
use Prim.Native.Nat.{ℕ, ◌+◌, ◌-◌, ◌*◌, ◌/◌, ◌≤◌, ◌<◌}
use native.Mathlib.Nat.{mul-le-mul_left, mul-le-mul_right, le_trans, mul_comm, div-le_of_le-mul, div-mul-le_self, lt-div-mul-add, le_of_mul-le-mul_right, lt_of_mul-lt-mul_right, mul-zero, zero-div}
use native.Mathlib.Omega.{arith}
use borrow.Author.Tests.{leb-true, leb-false, le-leb, lt-leb}
use lib.Dec.{leb}
use Rattle.laws.proofs.Powers.{sub-mul}

unfoldable pub line : ℕ → ℕ → ℕ → ℕ → ℕ
line r s g n = cond (leb r s) (r + (s - r) * g / n) (r - (r - s) * g / n)

-- x times a part g of n, over n, is at most x
pub part-le : (x g n : ℕ) → g ≤ n → x * g / n ≤ x
part-le x g n h = div-le_of_le-mul n (le_trans (mul-le-mul_left x h) (omega (arith, mul_comm x n)))

module _ (r s g n : ℕ) where
  pub line-up : r ≤ s → line r s g n ≡ r + (s - r) * g / n
  unfolding line
  line-up h = rw (le-leb r s h)

  pub line-down : s < r → line r s g n ≡ r - (r - s) * g / n
  unfolding line
  line-down h = rw (lt-leb r s h)

  module _ (l : g ≤ n) where
    -- between the ends
    pub line-high : (m : ℕ) → r ≤ m → s ≤ m → line r s g n ≤ m
    unfolding line
    line-high m p q = go (leb r s) refl
      where
        go : (t : Bool) → leb r s ≡ t → cond t (r + (s - r) * g / n) (r - (r - s) * g / n) ≤ m
        go true e = omega (arith, part-le (s - r) g n l, leb-true)
        go false e = omega arith

-- it starts at its first end
pub line-start : (r s n : ℕ) → line r s 0 n ≡ r
unfolding line
line-start r s n = go (leb r s)
  where
    go : (t : Bool) → cond t (r + (s - r) * 0 / n) (r - (r - s) * 0 / n) ≡ r
    go true = simp (mul-zero, zero-div) (omega arith)
    go false = simp (mul-zero, zero-div) (omega arith)

-- ---- the line does not fall where an end rises. With k days left of n = k + g, n times the exact rate is r * k + s * g.

record Floor (x n v : ℕ) : Type 0 where
  low : v * n ≤ x
  high : x < v * n + n

record Ceiling (x n v : ℕ) : Type 0 where
  low : x ≤ v * n
  high : v * n < x + n

module _ (r s g k : ℕ) (some : 0 < k + g) where
  floor : r ≤ s → Floor (r * k + s * g) (k + g) (r + (s - r) * g / (k + g))
  floor h = go ((s - r) * g / (k + g)) (div-mul-le_self ((s - r) * g) (k + g)) (lt-div-mul-add some)
    where
      go : (q : ℕ) → q * (k + g) ≤ (s - r) * g → (s - r) * g < q * (k + g) + (k + g) → Floor (r * k + s * g) (k + g) (r + q)
      go q a b =
          let e : (s - r) * g ≡ s * g - r * g = sub-mul s r g in
          let f : r * g ≤ s * g = mul-le-mul_right g h in
          record { low = omega arith; high = omega arith }

  ceiling : s ≤ r → Ceiling (r * k + s * g) (k + g) (r - (r - s) * g / (k + g))
  ceiling h = go ((r - s) * g / (k + g)) (div-mul-le_self ((r - s) * g) (k + g)) (lt-div-mul-add some) (part-le (r - s) g (k + g) (omega arith))
    where
      go : (q : ℕ) → q * (k + g) ≤ (r - s) * g → (r - s) * g < q * (k + g) + (k + g) → q ≤ r - s → Ceiling (r * k + s * g) (k + g) (r - q)
      go q a b c =
          let e : (r - s) * g ≡ r * g - s * g = sub-mul r s g in
          let f : s * g ≤ r * g = mul-le-mul_right g h in
          let m : (r - q) * (k + g) ≡ r * (k + g) - q * (k + g) = sub-mul r q (k + g) in
          let o : q * (k + g) ≤ r * (k + g) = mul-le-mul_right (k + g) (omega arith) in
          record { low = omega arith; high = omega arith }

module _ {x y n v w : ℕ} (h : x ≤ y) where
  floor-floor : Floor x n v → Floor y n w → v ≤ w
  floor-floor a b = let l : v < w + 1 = lt_of_mul-lt-mul_right n (omega arith) in omega arith

  ceiling-ceiling : Ceiling x n v → Ceiling y n w → v ≤ w
  ceiling-ceiling a b = let l : v < w + 1 = lt_of_mul-lt-mul_right n (omega arith) in omega arith

  floor-ceiling : 0 < n → Floor x n v → Ceiling y n w → v ≤ w
  floor-ceiling p a b = le_of_mul-le-mul_right {k = n} (omega arith) p

pub line-monotone : (r s r' s' g k : ℕ) → 0 < k + g → r ≤ r' → s ≤ s' → line r s g (k + g) ≤ line r' s' g (k + g)
unfolding line
line-monotone r s r' s' g k some p q = go (leb r s) (leb r' s') refl refl
  where
    exact : r * k + s * g ≤ r' * k + s' * g
    exact = omega (arith, mul-le-mul_right k p, mul-le-mul_right g q)

    go : (t u : Bool) → leb r s ≡ t → leb r' s' ≡ u
        → cond t (r + (s - r) * g / (k + g)) (r - (r - s) * g / (k + g)) ≤ cond u (r' + (s' - r') * g / (k + g)) (r' - (r' - s') * g / (k + g))
    go true true e f = floor-floor exact (floor r s g k some (leb-true r s e)) (floor r' s' g k some (leb-true r' s' f))
    go true false e f = floor-ceiling exact some (floor r s g k some (leb-true r s e)) (ceiling r' s' g k some (omega (arith, leb-false r' s' f)))
    go false true e f = omega arith
    go false false e f =
        ceiling-ceiling exact (ceiling r s g k some (omega (arith, leb-false r s e))) (ceiling r' s' g k some (omega (arith, leb-false r' s' f)))
