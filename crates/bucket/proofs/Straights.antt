-- Three days of a line between two nodes: its rates, cut to whole millionths, are straight.
use mathlib.Core.Path.{◌≡◌}
use Prim.Native.Nat.{ℕ, ◌+◌, ◌-◌, ◌*◌, ◌/◌, ◌≤◌, ◌<◌}
use native.Mathlib.Nat.{le_trans, mul-le-mul_left, mul-le-mul_right, le_of_mul-le-mul_right, div-mul-le_self, lt-div-mul-add, le-div_iff_mul-le}
use native.Mathlib.Decide.{dec_le}
use native.Mathlib.Omega.{arith}
use Rattle.laws.proofs.Powers.{sub-mul}
use Rattle.curve.proofs.Line.{line, line-up, line-down, line-high, part-le}
use Rattle.bucket.specs.Convexity.{Apart, Straight}

-- ---- n times the rate y is x, but for p on one side and q on the other

record Rounded (x n y p q : ℕ) : Type 0 where
  above : x ≤ y * n + p
  below : y * n ≤ x + q

module _ (r s g k : ℕ) (some : 0 < k + g) where
  rounded-down : r ≤ s → Rounded (r * k + s * g) (k + g) (line r s g (k + g)) (k + g) 0
  rounded-down h = rw (line-up r s g (k + g) h) (go ((s - r) * g / (k + g)) (div-mul-le_self ((s - r) * g) (k + g)) (lt-div-mul-add some))
    where
      go : (q : ℕ) → q * (k + g) ≤ (s - r) * g → (s - r) * g < q * (k + g) + (k + g) → Rounded (r * k + s * g) (k + g) (r + q) (k + g) 0
      go q a b =
          let e : (s - r) * g ≡ s * g - r * g = sub-mul s r g in
          let f : r * g ≤ s * g = mul-le-mul_right g h in
          record { above = omega arith; below = omega arith }

  rounded-up : s < r → Rounded (r * k + s * g) (k + g) (line r s g (k + g)) 0 (k + g)
  rounded-up h =
      rw (line-down r s g (k + g) h)
      (go ((r - s) * g / (k + g)) (div-mul-le_self ((r - s) * g) (k + g)) (lt-div-mul-add some) (part-le (r - s) g (k + g) (omega arith)))
    where
      go : (q : ℕ) → q * (k + g) ≤ (r - s) * g → (r - s) * g < q * (k + g) + (k + g) → q ≤ r - s → Rounded (r * k + s * g) (k + g) (r - q) 0 (k + g)
      go q a b c =
          let e : (r - s) * g ≡ r * g - s * g = sub-mul r s g in
          let f : s * g ≤ r * g = mul-le-mul_right g (omega arith) in
          let m : (r - q) * (k + g) ≡ r * (k + g) - q * (k + g) = sub-mul r q (k + g) in
          let o : q * (k + g) ≤ r * (k + g) = mul-le-mul_right (k + g) (omega arith) in
          record { above = omega arith; below = omega arith }

-- ---- two and three of them, of the same n

module _ (n p q : ℕ) (some : 0 < n) (sum : p + q ≡ n) where
  -- x and x' are at most d apart
  pair : (x y x' y' d width j : ℕ) → Rounded x n y p q → Rounded x' n y' p q → Apart x x' (width * d) → width * d / n + 1 ≤ j → Apart y y' j
  pair x y x' y' d width j a b far less =
      record { above = one y y' (omega (arith, a.below, b.above, far.above)); below = one y' y (omega (arith, b.below, a.above, far.below)) }
    where
      one : (y y' : ℕ) → y * n ≤ y' * n + width * d + n → y ≤ y' + j
      one y y' h =
          elim (dec_le y (y' + 1)) [
            | yes l ↦ omega arith
            | no l ↦ (let m : (y - (y' + 1)) * n ≤ width * d = omega (arith, sub-mul y (y' + 1) n, mul-le-mul_right n (more l)) in omega (arith, (le-div_iff_mul-le {k = n} {x = y - (y' + 1)} {y = width * d} some).1 m))
          ]
        where
          more : (y ≤ y' + 1 → ⊥) → y' + 1 ≤ y
          more l = omega arith

  module _ (u v x₀ x x₁ y₀ y y₁ : ℕ) (a : Rounded x₀ n y₀ p q) (b : Rounded x n y p q) (c : Rounded x₁ n y₁ p q) (exact : v * x₀ + u * x₁ ≡ (u + v) * x) where
    spread : (u + v) * p + (u + v) * q ≡ (u + v) * n
    spread = rw (← sum) (omega arith)

    under-line : v * y₀ + u * y₁ ≤ (u + v) * (y + 1)
    under-line =
        let scaled : (v * y₀ + u * y₁) * n ≤ (u + v) * (y + 1) * n =
        omega (arith, mul-le-mul_left v a.below, mul-le-mul_left u c.below, mul-le-mul_left (u + v) b.above, exact, spread) in
        le_of_mul-le-mul_right scaled some

    over-line : (u + v) * y ≤ v * y₀ + u * y₁ + (u + v)
    over-line =
        let scaled : (u + v) * y * n ≤ (v * y₀ + u * y₁ + (u + v)) * n =
        omega (arith, mul-le-mul_left v a.above, mul-le-mul_left u c.above, mul-le-mul_left (u + v) b.below, exact, spread) in
        le_of_mul-le-mul_right scaled some

-- ---- a line from r to s, a days on, u later and v later still, with k left

module _ (r s width : ℕ) (far : Apart r s width) where
  exact-apart : (k a d : ℕ) → Apart (r * (d + k) + s * a) (r * k + s * (a + d)) (width * d)
  exact-apart k a d = record { above = omega (arith, mul-le-mul_right d far.above); below = omega (arith, mul-le-mul_right d far.below) }

  module _ (a u v k most jump n : ℕ) (days : n ≡ a + u + v + k) (some : 0 < n) (jumps : width * (u + v) / n + 1 ≤ jump) (lr : r ≤ most) (ls : s ≤ most) where
    abbrev rate : ℕ → ℕ
    rate g = line r s g n

    module _ (p q : ℕ) (sum : p + q ≡ n) (round : (g k : ℕ) → k + g ≡ n → Rounded (r * k + s * g) n (rate g) p q) where
      r₀ : Rounded (r * (u + v + k) + s * a) n (rate a) p q
      r₀ = round a (u + v + k) (omega arith)

      r₁ : Rounded (r * (v + k) + s * (a + u)) n (rate (a + u)) p q
      r₁ = round (a + u) (v + k) (omega arith)

      r₂ : Rounded (r * k + s * (a + u + v)) n (rate (a + u + v)) p q
      r₂ = round (a + u + v) k (omega arith)

      less : (d : ℕ) → d ≤ u + v → width * d / n + 1 ≤ jump
      less d h =
          let small : width * d / n * n ≤ width * (u + v) = le_trans (div-mul-le_self (width * d) n) (mul-le-mul_left width h) in
          omega (arith, (le-div_iff_mul-le {k = n} {x = width * d / n} {y = width * (u + v)} some).1 small)

      three : Straight most jump u v (rate a) (rate (a + u)) (rate (a + u + v))
      three =
          let exact : v * (r * (u + v + k) + s * a) + u * (r * k + s * (a + u + v)) ≡ (u + v) * (r * (v + k) + s * (a + u)) = omega arith in
          let e₁ : r * (u + (v + k)) + s * a ≡ r * (u + v + k) + s * a = omega arith in
          let e₂ : r * (u + v + k) + s * a ≡ r * ((u + v) + k) + s * a = omega arith in
          let e₃ : r * k + s * (a + (u + v)) ≡ r * k + s * (a + u + v) = omega arith in
          record {
            under = under-line n p q some sum u v _ _ _ _ _ _ r₀ r₁ r₂ exact;
            over = over-line n p q some sum u v _ _ _ _ _ _ r₀ r₁ r₂ exact;
            first = pair n p q some sum _ _ _ _ u width jump r₀ r₁ (rw e₁ at (exact-apart (v + k) a u)) (less u (omega arith));
            second = pair n p q some sum _ _ _ _ v width jump r₁ r₂ (exact-apart k (a + u) v) (less v (omega arith));
            both = pair n p q some sum _ _ _ _ (u + v) width jump r₀ r₂ (rw e₃ at (exact-apart k a (u + v))) (less (u + v) (omega arith));
            limit₀ = line-high r s a n (omega arith) most lr ls;
            limit = line-high r s (a + u) n (omega arith) most lr ls;
            limit₁ = line-high r s (a + u + v) n (omega arith) most lr ls;
          }

    pub line-straight : Straight most jump u v (rate a) (rate (a + u)) (rate (a + u + v))
    line-straight =
        elim (dec_le r s) [
          | yes l ↦ three n 0 (omega arith) (λ g k e. rw e at (rounded-down r s g k (omega arith) l))
          | no l ↦ three 0 n (omega arith) (λ g k e. rw e at (rounded-up r s g k (omega arith) (omega arith)))
        ]
