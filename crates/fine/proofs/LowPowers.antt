-- The base to a power below 2 ^ 37: the series is at most that, and at most 4 parts of 2 ^ 42 under it.
use mathlib.Core.Path.{◌≡◌, refl, sym, ap, ◌∙◌}
use Prim.Native.Nat.{ℕ, ◌+◌, ◌-◌, ◌*◌, ◌/◌, ◌≤◌, ◌<◌}
use native.Mathlib.Nat.{le_trans, le_of_lt, mul-le-mul, mul-le-mul_left, mul-le-mul_right, le_of_mul-le-mul_right, div-mul-le_self, lt-div-mul-add}
use native.Mathlib.Omega.{arith}
use lib.Dec.{lit<, lit≤}
use Rattle.logarithm.specs.Logarithms.{fine_whole}
use Rattle.logarithm.proofs.Pade.{num, den, Short}
use Rattle.logarithm.proofs.Exponents.{Low, High, scale-is, third-low, third-high, scaled-low, scaled-high}
use Rattle.logarithm.proofs.Rows.{fine-is}
use Rattle.fine.specs.Fine.{low_power}

-- over plain numbers: q for x / 512, g for the square's part, b for the series, z for one; t is scale or a little less, d and n are the fraction's
-- denominator and numerator

-- x is small beside t
record Little (x t : ℕ) : Type 0 where
  part : 32768 * x ≤ t
  square : x * x ≤ 4194305 * t

cubes : (x t : ℕ) → Little x t → 32768 * (x * x * x) ≤ 4194305 * (t * t)
cubes x t s = omega (arith, mul-le-mul_right (x * x) s.part, mul-le-mul_left t s.square)

module _ (q g x z t : ℕ) (s : Little x t) where
  abbrev d : ℕ
  d = 3 * t * t + 3 * t * x + x * x

  -- what the square's part is at most
  square-most : t + 1 ≡ 1024 * z → g * (2 * z) ≤ q * q → 512 * q ≤ x → 512 * g * (t + 1) ≤ x * x
  square-most e h l =
      let turned : 512 * g * (t + 1) ≡ 512 * g * (1024 * z) = ap (λ (n : ℕ). 512 * g * n) e in
      omega (arith, turned, mul-le-mul_left 262144 h, mul-le-mul l l)

  parts-most : 512 * g * (t + 1) ≤ x * x → 512 * g * d ≤ 3 * t * x * x + 4 * x * x * x
  parts-most h =
      let few : 512 * g ≤ x = below g h in
      omega (arith, mul-le-mul_left (3 * t) h, mul-le-mul_left (3 * x) h, mul-le-mul_right (x * x) few)
    where
      below : (g : ℕ) → 512 * g * (t + 1) ≤ x * x → 512 * g ≤ x
      below g h =
          let less : x * x ≤ x * (t + 1) = mul-le-mul_left x (omega (arith, s.part)) in
          le_of_mul-le-mul_right (le_trans h less) (omega arith)

  low-key : t + 1 ≡ 1024 * z → g * (2 * z) ≤ q * q → 512 * q ≤ x → x < 512 * q + 512 → 512 * g * d + 3 * t * x * (t + 1) ≤ 512 * (q + 2) * d
  low-key e h l k =
      let wide : (x + 513) * d ≤ 512 * (q + 2) * d = mul-le-mul_right d (omega arith) in
      let room : 3 * (x * x * x) + 3 * (t * x) ≤ 1539 * (t * t) = omega (arith, cubes x t s, mul-le-mul_left t s.part) in
      le_trans (joined (512 * g * d) (parts-most (square-most e h l)) room) wide
    where
      joined : (w : ℕ) → w ≤ 3 * t * x * x + 4 * x * x * x → 3 * (x * x * x) + 3 * (t * x) ≤ 1539 * (t * t) → w + 3 * t * x * (t + 1) ≤ (x + 513) * d
      joined w h r = omega arith

  low-line : (b n : ℕ) → b + q + 2 ≡ z + g → n + 6 * t * x ≡ d → t + 1 ≡ 1024 * z → g * (2 * z) ≤ q * q → 512 * q ≤ x → x < 512 * q + 512 → b * d ≤ z * n
  low-line b n sum frac e h l k =
      let key = low-key e h l k in
      le_of_mul-le-mul_right (joined d key (ap (λ (m : ℕ). m * d) sum) (ap (λ (m : ℕ). z * m) frac) (ap (λ (m : ℕ). t * x * m) e)) (lit< tt)
    where
      joined : (d : ℕ) → 512 * g * d + 3 * t * x * (t + 1) ≤ 512 * (q + 2) * d → (b + q + 2) * d ≡ (z + g) * d → z * (n + 6 * t * x) ≡ z * d
          → t * x * (t + 1) ≡ t * x * (1024 * z) → b * d * 512 ≤ z * n * 512
      joined d key a c f = omega arith

  -- and what it is at least
  square-least : t ≡ 1024 * z → q * q < g * (2 * z) + 2 * z → 512 * q * (512 * q) ≤ (512 * g + 512) * t
  square-least e h =
      let turned : (512 * g + 512) * t ≡ (512 * g + 512) * (1024 * z) = ap (λ (n : ℕ). (512 * g + 512) * n) e in
      omega (arith, turned, mul-le-mul_left 262144 (le_of_lt h))

  high-key : t ≡ 1024 * z → q * q < g * (2 * z) + 2 * z → 512 * q ≤ x → x < 512 * q + 512 → 512 * q * d ≤ 3 * t * t * x + 512 * (g + 2) * d
  high-key e h l k =
      let same : 512 * g + 512 + 512 ≡ 512 * (g + 2) = omega arith in
      rw same at (joined (512 * q) (512 * g + 512) l k (square-least e h) (cubes x t s) s.part)
    where
      last : (y a : ℕ) → 3 * t * (x * y) ≤ 3 * t * (y * y + 512 * y) → 1536 * (t * y) + x * x * y ≤ 1536 * (t * t) → 3 * t * (y * y) ≤ 3 * t * (a * t)
          → 3 * t * t * y ≤ 3 * t * t * x → y * d ≤ 3 * t * t * x + (a + 512) * d
      last y a h r g l = omega arith

      joined : (y a : ℕ) → y ≤ x → x < y + 512 → y * y ≤ a * t → 32768 * (x * x * x) ≤ 4194305 * (t * t) → 32768 * x ≤ t → y * d ≤ 3 * t * t * x + (a + 512) * d
      joined y a l k h c p =
          let cross : x * y ≤ y * y + 512 * y = omega (arith, mul-le-mul_right y (le_of_lt k)) in
          let rest : 1536 * (t * y) + x * x * y ≤ 1536 * (t * t) = omega (arith, mul-le-mul_left t l, mul-le-mul_left (x * x) l, mul-le-mul_left t p) in
          last y a (mul-le-mul_left (3 * t) cross) rest (mul-le-mul_left (3 * t) h) (mul-le-mul_left (3 * t * t) l)

  high-line : (b n : ℕ) → b + q + 2 ≡ z + g → n + 6 * t * x ≡ d → t ≡ 1024 * z → q * q < g * (2 * z) + 2 * z → 512 * q ≤ x → x < 512 * q + 512
      → z * n ≤ (b + 4) * d
  high-line b n sum frac e h l k =
      let key = high-key e h l k in
      le_of_mul-le-mul_right (joined d key (ap (λ (m : ℕ). m * d) sum) (ap (λ (m : ℕ). z * m) frac) (ap (λ (m : ℕ). t * x * m) e)) (lit< tt)
    where
      joined : (d : ℕ) → 512 * q * d ≤ 3 * t * t * x + 512 * (g + 2) * d → (b + q + 2) * d ≡ (z + g) * d → z * (n + 6 * t * x) ≡ z * d
          → t * x * t ≡ t * x * (1024 * z) → z * n * 512 ≤ (b + 4) * d * 512
      joined d key a c f = omega arith

-- ---- the numbers themselves

-- numerator and denominator by t, which is p + x
fraction : (p x t : ℕ) → t ≡ p + x → (num p x + 6 * t * x ≡ 3 * t * t + 3 * t * x + x * x) × (den p x ≡ 3 * t * t + 3 * t * x + x * x)
fraction p x t e = rw e (omega arith, omega arith)

module _ (x : ℕ) (l : x < 137438953472) where
  abbrev q : ℕ
  q = x / 512

  abbrev g : ℕ
  g = q * q / 8796093022208

  abbrev b : ℕ
  b = 4398046511102 - q + g

  sum : b + q + 2 ≡ 4398046511104 + g
  sum = omega arith

  little : (t : ℕ) → 4503599627370495 ≤ t → Little x t
  little t h = record { part = omega arith; square = omega (arith, mul-le-mul_left x (le_of_lt l), h, l) }

  square : x * x + x ≤ 18889465931616019808256
  square = omega (arith, mul-le-mul (le_of_lt l) (le_of_lt l))

  short : Short 4503599627370495 1 18889465931616019808256
  short = record { covers = lit≤ tt; few = lit≤ tt }

  pub low-power-low : Low fine_whole (low_power x) x
  unfolding low_power
  low-power-low =
      let t : ℕ = 4503599627370495 in
      let p : ℕ = t - x in
      let e : t ≡ p + x = omega arith in
      let f = fraction p x t e in
      let less : b * (3 * t * t + 3 * t * x + x * x) ≤ 4398046511104 * num p x =
      low-line q g x 4398046511104 t (little t (omega arith)) b (num p x) sum f.0 refl (div-mul-le_self (q * q) 8796093022208) (omega arith) (omega arith) in
      scaled-low fine_whole b (num p x) (den p x) x (rw f.1 (omega arith)) (third-low x p 1 18889465931616019808256 t e (sym scale-is) square short)
      (rw (f.1, fine-is) less)

  pub low-power-high : High fine_whole (low_power x + 4) x
  unfolding low_power
  low-power-high =
      let t : ℕ = 4503599627370496 in
      let p : ℕ = t - x in
      let e : t ≡ p + x = omega arith in
      let f = fraction p x t e in
      let more : 4398046511104 * num p x ≤ (b + 4) * (3 * t * t + 3 * t * x + x * x) =
      high-line q g x 4398046511104 t (little t (omega arith)) b (num p x) sum f.0 refl (lt-div-mul-add (lit< tt)) (omega arith) (omega arith) in
      scaled-high fine_whole (b + 4) (den p x) (num p x) x (rw f.1 (omega arith)) (third-high x p (sym e ∙ sym scale-is)) (rw (f.1, fine-is) more)
