-- Powers of (s - 1) / (s + 1), to the third order: the c-th is at most (3 s s - 3 s c + c c) / (3 s s + 3 s c + c c), and at least the same with an s
-- a little smaller. With a for s - 1 and p for s - c: the numerator is 3 p p + 3 p c + c c, the denominator 3 p p + 9 p c + 7 c c.
use mathlib.Core.Path.{◌≡◌, refl, ap}
use Prim.Native.Nat.{ℕ, zero, suc, ◌+◌, ◌*◌, ◌^◌, ◌≤◌}
use native.Mathlib.Nat.{le-add_right, mul-le-mul, mul-le-mul_left, mul-le-mul_right, le_of_mul-le-mul_right, le_trans, pow-zero, pow-suc}
use native.Mathlib.Omega.{arith}

abbrev pub num : ℕ → ℕ → ℕ
num p c = 3 * p * p + 3 * p * c + c * c

abbrev pub den : ℕ → ℕ → ℕ
den p c = 3 * p * p + 9 * p * c + 7 * c * c

-- ---- one factor more, as polynomials, in steps: `omega` multiplies out no more than 64 monomials at once. With t for p + c + 1, f for c c + c,
-- n and m for this numerator and the next, and a and b for half of what the denominators have more

module _ (n m a b q t f : ℕ) (same : t ≡ q + 1) (cross : b * n + 3 * t * f ≡ a * m + 9 * t * t * t)
    (sum : n * m + b * n + a * m + 3 * t * t * f ≡ 9 * t * t * t * t + 3 * t * t + f * f) where
  difference' : m * (q + 2) * (n + 2 * a) ≡ (m + 2 * b) * q * n + (2 * f * f + 6 * t * t)
  difference' =
      let cubes : t * t * t * t ≡ t * t * t * (q + 1) = ap (λ (z : ℕ). t * t * t * z) same in
      let squares : t * f * t ≡ t * f * (q + 1) = ap (λ (z : ℕ). t * f * z) same in
      omega (arith, ap (λ (z : ℕ). q * z) cross)

  cross' : (m + 2 * b) * n + 6 * t * f ≡ m * (n + 2 * a) + 18 * t * t * t
  cross' = omega (arith, cross)

-- the sum, from numerators and denominators
sum' : (n m t c : ℕ) → n + 3 * t * c ≡ 3 * t * t + c * c → m + 3 * t * (c + 1) ≡ 3 * t * t + (c + 1) * (c + 1)
    → n * m + 3 * t * (c + 1) * n + 3 * t * c * m + 3 * t * t * (c * c + c) ≡ 9 * t * t * t * t + 3 * t * t + (c * c + c) * (c * c + c)
sum' n m t c g h =
    let both : (n + 3 * t * c) * (m + 3 * t * (c + 1)) ≡ (3 * t * t + c * c) * (3 * t * t + (c + 1) * (c + 1)) = rw (g, h) refl in
    omega (arith, both)

times' : (n m t c : ℕ) → (c + 1) * n + (c * c + c) ≡ c * m + 3 * t * t → 3 * t * (c + 1) * n + 3 * t * (c * c + c) ≡ 3 * t * c * m + 9 * t * t * t
times' n m t c h = omega (arith, ap (λ (z : ℕ). 3 * t * z) h)

module _ (p c : ℕ) where
  abbrev t : ℕ
  t = p + c + 1

  here : num (p + 1) c + 3 * t * c ≡ 3 * t * t + c * c
  here = omega arith

  next : num p (suc c) + 3 * t * (c + 1) ≡ 3 * t * t + (c + 1) * (c + 1)
  next = omega arith

  den-here : den (p + 1) c ≡ num (p + 1) c + 2 * (3 * t * c)
  den-here = omega arith

  den-next : den p (suc c) ≡ num p (suc c) + 2 * (3 * t * (c + 1))
  den-next = omega arith

  lines : (c + 1) * num (p + 1) c + (c * c + c) ≡ c * num p (suc c) + 3 * t * t
  lines = omega arith

  -- what the one side has more than the other
  difference : num p (suc c) * (p + c + 2) * den (p + 1) c ≡ den p (suc c) * (p + c) * num (p + 1) c + (2 * (c * c + c) * (c * c + c) + 6 * t * t)
  difference =
      rw (den-here, den-next)
      (difference' (num (p + 1) c) (num p (suc c)) (3 * t * c) (3 * t * (c + 1)) (p + c) t (c * c + c) refl
      (times' (num (p + 1) c) (num p (suc c)) t c lines) (sum' (num (p + 1) c) (num p (suc c)) t c here next))

  cross : den p (suc c) * num (p + 1) c + 6 * t * (c * c + c) ≡ num p (suc c) * den (p + 1) c + 18 * t * t * t
  cross =
      rw (den-here, den-next)
      (cross' (num (p + 1) c) (num p (suc c)) (3 * t * c) (3 * t * (c + 1)) (p + c) t (c * c + c) refl
      (times' (num (p + 1) c) (num p (suc c)) t c lines) (sum' (num (p + 1) c) (num p (suc c)) t c here next))

  high-key : den p (suc c) * (p + c) * num (p + 1) c ≤ num p (suc c) * (p + c + 2) * den (p + 1) c
  high-key = rw difference (le-add_right _ _)

-- with s + k for s where the factor is taken: over plain numbers, n and d for the next fraction, v and w for this one
low-key : (n d v w q k f t u : ℕ) → n * (q + 2) * w ≡ d * q * v + f → d * v + t ≡ n * w + u → f + k * t ≤ k * u
    → n * (q + k + 2) * w ≤ d * (q + k) * v
low-key n d v w q k f t u h g l = omega (arith, ap (λ (z : ℕ). k * z) g)

-- one more, from the key
more : (n d n' d' a b x y : ℕ) → 1 ≤ d → d' * a * n ≤ n' * b * d → d * x ≤ n * y → d' * (x * a) ≤ n' * (y * b)
more n d n' d' a b x y pos key ih =
    let scaled : d' * (x * a) * d ≤ n' * (y * b) * d = omega (arith, mul-le-mul_left (d' * a) ih, mul-le-mul_right y key) in
    le_of_mul-le-mul_right scaled pos

pub pade-high : (c p a : ℕ) → a + 1 ≡ p + c → den p c * a ^ c ≤ num p c * (a + 2) ^ c
pade-high zero p a e = simp pow-zero (omega arith)
pade-high (suc c) p a e =
    let same : a ≡ p + c = omega arith in
    let ih : den (p + 1) c * a ^ c ≤ num (p + 1) c * (a + 2) ^ c = pade-high c (p + 1) a (omega arith) in
    let key : den p (suc c) * a * num (p + 1) c ≤ num p (suc c) * (a + 2) * den (p + 1) c = rw same (high-key p c) in
    simp pow-suc (more (num (p + 1) c) (den (p + 1) c) (num p (suc c)) (den p (suc c)) a (a + 2) (a ^ c) ((a + 2) ^ c) (omega arith) key ih)

-- what k has to be, for s - k in the place of s, which is t, and every power up to one with e for c c + c
pub record Short (t k e : ℕ) : Type 0 where
  pub covers : e * e + 3 * t * t ≤ 8 * k * t * t * t
  pub few : 3 * e ≤ t * t

gap : (t k e f : ℕ) → f ≤ e → Short t k e → 2 * f * f + 6 * t * t + k * (6 * t * f) ≤ k * (18 * t * t * t)
gap t k e f l s =
    let square : f * f ≤ e * e = mul-le-mul l l in
    let less : 3 * f ≤ t * t = le_trans (mul-le-mul_left 3 l) s.few in
    omega (arith, mul-le-mul_left (k * t) less, s.covers)

pub pade-low : (c p a k e t : ℕ) → t ≡ p + c → a + 1 ≡ t + k → c * c + c ≤ e → Short t k e → num p c * (a + 2) ^ c ≤ den p c * a ^ c
pade-low zero p a k e t r g l s = simp pow-zero (omega arith)
pade-low (suc c) p a k e t r g l s =
    let same : a ≡ p + c + k = omega arith in
    let sum : t ≡ p + c + 1 = omega arith in
    let ih : num (p + 1) c * (a + 2) ^ c ≤ den (p + 1) c * a ^ c = pade-low c (p + 1) a k e t (omega arith) g (omega arith) s in
    let f : ℕ = c * c + c in
    let enough : 2 * f * f + 6 * t * t + k * (6 * t * f) ≤ k * (18 * t * t * t) = gap t k e f (omega arith) s in
    let key : num p (suc c) * (a + 2) * den (p + 1) c ≤ den p (suc c) * a * num (p + 1) c =
    rw same (low-key (num p (suc c)) (den p (suc c)) (num (p + 1) c) (den (p + 1) c) (p + c) k _ _ _ (difference p c) (cross p c) (rw sum at enough)) in
    simp pow-suc (more (den (p + 1) c) (num (p + 1) c) (den p (suc c)) (num p (suc c)) (a + 2) a ((a + 2) ^ c) (a ^ c) (omega arith) key ih)
