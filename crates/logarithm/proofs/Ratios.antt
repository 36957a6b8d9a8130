-- Exponents of quotients and products: what a step of the table of logarithms adds, and what a product of two rows keeps.
use mathlib.Core.Path.{◌≡◌, ap}
use Prim.Native.Nat.{ℕ, ◌+◌, ◌-◌, ◌*◌, ◌/◌, ◌^◌, ◌≤◌, ◌<◌}
use native.Mathlib.Nat.{le_refl, mul-pos, mul-le-mul, mul-le-mul_left, mul-le-mul_right, le_of_mul-le-mul_right, pow-zero, pow-le-pow_left, div-mul-le_self, lt-div-mul-add}
use native.Mathlib.Omega.{arith}
use lib.Pow.{pow-add}
use Rattle.laws.proofs.Powers.{sub-mul}
use Rattle.discount.specs.Discount.{million}
use Rattle.logarithm.specs.Logarithms.{scale, base_numerator, base_denominator}
use Rattle.logarithm.proofs.Pade.{num, den}
use Rattle.logarithm.proofs.Exponents.{Low, High, Logged, scale-pos, numerator-le, base-low, base-high}

-- ---- m / (m + j) against the base to the power d

module _ (m j d : ℕ) (l : d ≤ scale) where
  abbrev p : ℕ
  p = scale - d

  sum : p + d ≡ scale
  sum = omega arith

  -- `omega` takes (p + d) * j and scale * j for two unknowns
  times : (p + d) * j ≡ scale * j
  times = ap (λ (z : ℕ). z * j) sum

  -- where d * (2 m + j) ≤ scale * j, it is at most that
  pub ratio-most : d * (2 * m + j) ≤ scale * j → m * base_denominator ^ d ≤ (m + j) * base_numerator ^ d
  ratio-most h =
      let less : (p + 2 * d) * m ≤ p * (m + j) = omega (arith, times) in
      let scaled : m * base_denominator ^ d * (p + 2 * d) ≤ (m + j) * base_numerator ^ d * (p + 2 * d) =
      omega (arith, mul-le-mul_left (m + j) (base-low d p sum), mul-le-mul_right (base_denominator ^ d) less) in
      le_of_mul-le-mul_right scaled (omega (arith, scale-pos))

  -- where (scale + k) * j ≤ d * (2 m + j), with k * (scale + k) at least d * (d + 1), it is at least that
  pub ratio-least : (k : ℕ) → 0 < k → d * d + d ≤ k * (scale + k) → (scale + k) * j ≤ d * (2 * m + j) → (m + j) * base_numerator ^ d ≤ m * base_denominator ^ d
  ratio-least k pos sq h =
      let less : (k + p) * (m + j) ≤ (k + p + 2 * d) * m = omega (arith, times) in
      let scaled : (m + j) * base_numerator ^ d * (k + p) ≤ m * base_denominator ^ d * (k + p) =
      omega (arith, mul-le-mul_left m (base-high d p k sum sq), mul-le-mul_right (base_numerator ^ d) less) in
      le_of_mul-le-mul_right scaled (omega arith)

-- ---- the same to the third order

-- where 3 t d (2 m + j) ≤ j (3 t t + d d), with t a little less than scale, it is at most that
module _ (m j d p t : ℕ) (sum : t ≡ p + d) where
  pub third-most : 0 < d → num p d * base_denominator ^ d ≤ den p d * base_numerator ^ d → 3 * t * d * (2 * m + j) ≤ j * (3 * t * t + d * d)
      → m * base_denominator ^ d ≤ (m + j) * base_numerator ^ d
  third-most pos g h =
      let less : m * den p d ≤ (m + j) * num p d = smaller (rw sum at h) in
      let scaled : m * base_denominator ^ d * num p d ≤ (m + j) * base_numerator ^ d * num p d = joined (num p d) (den p d) (base_denominator ^ d) (base_numerator ^ d) g less in
      le_of_mul-le-mul_right scaled (positive pos)
    where
      smaller : 3 * (p + d) * d * (2 * m + j) ≤ j * (3 * (p + d) * (p + d) + d * d) → m * den p d ≤ (m + j) * num p d
      smaller h = omega arith

      joined : (n e x y : ℕ) → n * x ≤ e * y → m * e ≤ (m + j) * n → m * x * n ≤ (m + j) * y * n
      joined n e x y g h = omega (arith, mul-le-mul_left m g, mul-le-mul_right y h)

      positive : 0 < d → 0 < num p d
      positive l = omega (arith, mul-pos l l)

  -- and where the other way round, with t for scale, at least
  pub third-least : 0 < d → den p d * base_numerator ^ d ≤ num p d * base_denominator ^ d → j * (3 * t * t + d * d) ≤ 3 * t * d * (2 * m + j)
      → (m + j) * base_numerator ^ d ≤ m * base_denominator ^ d
  third-least pos g h =
      let less : (m + j) * num p d ≤ m * den p d = larger (rw sum at h) in
      let scaled : (m + j) * base_numerator ^ d * den p d ≤ m * base_denominator ^ d * den p d = joined (num p d) (den p d) (base_denominator ^ d) (base_numerator ^ d) g less in
      le_of_mul-le-mul_right scaled (positive pos)
    where
      larger : j * (3 * (p + d) * (p + d) + d * d) ≤ 3 * (p + d) * d * (2 * m + j) → (m + j) * num p d ≤ m * den p d
      larger h = omega arith

      joined : (n e x y : ℕ) → e * y ≤ n * x → (m + j) * n ≤ m * e → (m + j) * y * e ≤ m * x * e
      joined n e x y g h = omega (arith, mul-le-mul_left (m + j) g, mul-le-mul_right x h)

      positive : 0 < d → 0 < den p d
      positive l = omega (arith, mul-pos l l)

-- ---- logarithms add up

pub logged_none : Logged million 0 0
logged_none = record { most = simp pow-zero (le_refl _); least = simp pow-zero (le_refl _) }

pub logged-more : (m e s j d t : ℕ) → Logged m e s → m * base_denominator ^ d ≤ (m + j) * base_numerator ^ d → (m + j) * base_numerator ^ (d + t) ≤ m * base_denominator ^ (d + t)
    → Logged (m + j) (e + d) (s + t)
logged-more m e s j d t g h k =
    let swap : e + d + (s + t) ≡ (e + s) + (d + t) = omega arith in
    let both : (m + j) * (base_numerator ^ (e + s) * base_numerator ^ (d + t)) ≤ million * (base_denominator ^ (e + s) * base_denominator ^ (d + t)) =
    omega (arith, mul-le-mul_right (base_denominator ^ (d + t)) g.least, mul-le-mul_right (base_numerator ^ (e + s)) k) in
    record {
      most = simp pow-add (omega (arith, mul-le-mul_right (base_denominator ^ d) g.most, mul-le-mul_right (base_numerator ^ e) h));
      least = rw (swap, pow-add base_numerator (e + s) (d + t), pow-add base_denominator (e + s) (d + t)) both;
    }

-- a wider one
pub logged-wide : (m e s t : ℕ) → Logged m e s → s ≤ t → Logged m e t
logged-wide m e s t g l =
    let rest : e + t ≡ (e + s) + (t - s) = omega arith in
    let both : m * (base_numerator ^ (e + s) * base_numerator ^ (t - s)) ≤ million * (base_denominator ^ (e + s) * base_denominator ^ (t - s)) =
    omega
    (arith, mul-le-mul_right (base_numerator ^ (t - s)) g.least, mul-le-mul_left (million * base_denominator ^ (e + s)) (pow-le-pow_left numerator-le (t - s))) in
    record { most = g.most; least = rw (rest, pow-add base_numerator (e + s) (t - s), pow-add base_denominator (e + s) (t - s)) both }

-- ---- products of rows

module _ (z : ℕ) (pos : 0 < z) where
  pub low_product : (a b x y : ℕ) → Low z a x → Low z b y → Low z (a * b / z) (x + y)
  low_product a b x y g h =
      let c : ℕ = a * b / z in
      let cut : c * z ≤ a * b = div-mul-le_self (a * b) z in
      let scaled : c * (base_denominator ^ x * base_denominator ^ y) * z ≤ z * (base_numerator ^ x * base_numerator ^ y) * z =
      omega (arith, mul-le-mul_right (base_denominator ^ x * base_denominator ^ y) cut, mul-le-mul g.low h.low) in
      record { low = simp pow-add (le_of_mul-le-mul_right scaled pos) }

  pub high_product : (a b v w x y : ℕ) → a ≤ z → b ≤ z → v * w ≤ z → High z (a + v) x → High z (b + w) y → High z (a * b / z + (v + w + 2)) (x + y)
  high_product a b v w x y la lb lw g h =
      let c : ℕ = a * b / z in
      let cut : a * b < c * z + z = lt-div-mul-add pos in
      let all : (a + v) * (b + w) ≤ (c + (v + w + 2)) * z = omega (arith, mul-le-mul_right w la, mul-le-mul_left v lb) in
      let scaled : z * (base_numerator ^ x * base_numerator ^ y) * z ≤ (c + (v + w + 2)) * (base_denominator ^ x * base_denominator ^ y) * z =
      omega (arith, mul-le-mul_right (base_denominator ^ x * base_denominator ^ y) all, mul-le-mul g.high h.high) in
      record { high = simp pow-add (le_of_mul-le-mul_right scaled pos) }

  -- m units of the exponent more, and d less in c
  pub low-later : (c x m d : ℕ) → m ≤ scale → 2 * m * c ≤ d * scale → Low z c x → Low z (c - d) (x + m)
  low-later c x m d l h g =
      let p : ℕ = scale - m in
      let sum : p + m ≡ scale = omega arith in
      let less : (c - d) * (p + 2 * m) ≤ c * p = simp sub-mul (omega (arith, ap (λ (z : ℕ). d * z) sum)) in
      let down : (c - d) * base_denominator ^ m * (p + 2 * m) ≤ c * base_numerator ^ m * (p + 2 * m) =
      omega (arith, mul-le-mul_left c (base-low m p sum), mul-le-mul_right (base_denominator ^ m) less) in
      let one : (c - d) * base_denominator ^ m ≤ c * base_numerator ^ m = le_of_mul-le-mul_right down (omega (arith, scale-pos)) in
      record { low = simp pow-add (omega (arith, mul-le-mul_right (base_denominator ^ x) one, mul-le-mul_right (base_numerator ^ m) g.low)) }
