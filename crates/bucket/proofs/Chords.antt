-- Three points of a line, in plain numbers: logarithms, exponents and powers on it are near their chords. The points are u and v apart.
use mathlib.Core.Path.{◌≡◌}
use Prim.Native.Nat.{ℕ, ◌+◌, ◌-◌, ◌*◌, ◌≤◌, ◌<◌}
use native.Mathlib.Nat.{mul-le-mul, mul-le-mul_left, mul-le-mul_right, le_of_mul-le-mul_right}
use native.Mathlib.Decide.{dec_le}
use native.Mathlib.Omega.{arith}
use lib.Dec.{lit<}
use Rattle.bucket.specs.Convexity.{Apart}

-- ---- squares and products

square-apart : (m n j : ℕ) → Apart m n j → m * m + n * n ≤ 2 * (m * n) + j * j
square-apart m n j h =
    elim (dec_le m n) [
      | yes l ↦ (let e : n ≡ m + (n - m) = omega arith in up m (n - m) n e (omega (arith, h.below)))
      | no l ↦ (let e : m ≡ n + (m - n) = omega arith in omega (arith, up n (m - n) m e (omega (arith, h.above))))
    ]
  where
    up : (a i b : ℕ) → b ≡ a + i → i ≤ j → a * a + b * b ≤ 2 * (a * b) + j * j
    up a i b e l = rw e (omega (arith, mul-le-mul l l))

-- a product of two differences is at most that of what they are at most
pub cross-apart : (x y a b c p : ℕ) → Apart x y c → Apart a b p → x * a + y * b ≤ y * a + x * b + c * p
cross-apart x y a b c p g h =
    elim (dec_le y x) [
      | yes l ↦ (let e : x ≡ y + (x - y) = omega arith in up (x - y) e (omega (arith, g.above)))
      | no l ↦ (let e : y ≡ x + (y - x) = omega arith in down (y - x) e (omega (arith, g.below)))
    ]
  where
    up : (i : ℕ) → x ≡ y + i → i ≤ c → x * a + y * b ≤ y * a + x * b + c * p
    up i e l = rw e (omega (arith, mul-le-mul_left i h.above, mul-le-mul_right p l))

    down : (i : ℕ) → y ≡ x + i → i ≤ c → x * a + y * b ≤ y * a + x * b + c * p
    down i e l = rw e (omega (arith, mul-le-mul_left i h.below, mul-le-mul_right p l))

four-uv : (u v : ℕ) → 4 * (u * v) ≤ (u + v) * (u + v)
four-uv u v =
    elim (dec_le u v) [
      | yes l ↦ (let e : v ≡ u + (v - u) = omega arith in go u (v - u) v e)
      | no l ↦ (let e : u ≡ v + (u - v) = omega arith in omega (arith, go v (u - v) u e))
    ]
  where
    go : (a i b : ℕ) → b ≡ a + i → 4 * (a * b) ≤ (a + b) * (a + b)
    go a i b e = rw e (omega arith)

-- ---- the tangent of a logarithm from the other side: it is at most k more under it

pub tangent-near : (s m e n f t j k : ℕ) → 0 < n → Apart m n j → s * (j * j) ≤ 2 * (m * n) * k → 2 * n * e + s * n ≤ 2 * n * f + s * m + 2 * n * t
    → 2 * m * e + s * n ≤ 2 * m * f + s * m + 2 * m * (t + k)
tangent-near s m e n f t j k pos a h g =
    let scaled : (2 * m * e + s * n) * n ≤ (2 * m * f + s * m + 2 * m * (t + k)) * n =
    omega (arith, mul-le-mul_left m g, mul-le-mul_left s (square-apart m n j a), h) in
    le_of_mul-le-mul_right scaled pos

-- ---- sums of products, each for a plain number: `omega` takes few products at a time

sum-logs : (a a' b b' c c' d d' t t' k k' : ℕ) → 2 * a + b ≤ 2 * c + d + 2 * t → 2 * a' + b' ≤ 2 * c' + d' + 2 * t' → d' + d ≤ b + b' + (2 * k + 2 * k')
    → 2 * a + 2 * a' ≤ 2 * c + 2 * c' + 2 * (t + t' + k + k')
sum-logs a a' b b' c c' d d' t t' k k' p q r = omega arith

sum-above : (x₀ x₁ x x' g₀ g₁ l₁ l₁' l₀' f w e r : ℕ) → 1460 * x₀ ≤ 4 * g₀ → 1460 * x₁ ≤ 4 * g₁ + 4 * l₁ + 4 * l₁' → 4 * l₁' ≤ 4 * l₀' + 4 * w
    → 4 * g₀ + 4 * g₁ + 4 * l₀' + 4 * l₁ ≤ 4 * f + 4 * r → 4 * f ≤ 1460 * x + 1456 * x' → 4 * w + 1456 * x' + 4 * r ≤ 1460 * e
    → x₀ + x₁ ≤ x + e
sum-above x₀ x₁ x x' g₀ g₁ l₁ l₁' l₀' f w e r a b c d h i = omega arith

sum_below : (x₀ x₁ x u v g₀ g₁ l₁ l₁' l₀' f w e r : ℕ) → 4 * g₀ ≤ 1460 * x₀ + 1456 * v → 4 * g₁ + 4 * l₁ + 4 * l₁' ≤ 1460 * x₁ + 1456 * u → 4 * l₀' ≤ 4 * l₁' + 4 * w
    → 4 * f ≤ 4 * g₀ + 4 * g₁ + 4 * l₀' + 4 * l₁ + 4 * r → 1460 * x ≤ 4 * f → 4 * w + 1456 * (u + v) + 4 * r ≤ 1460 * e
    → x ≤ x₀ + x₁ + e
sum_below x₀ x₁ x u v g₀ g₁ l₁ l₁' l₀' f w e r a b c d h i = omega arith

sum-powers : (a b d f g i j k l m n : ℕ) → a + 2 * b ≤ d + 2 * f → g + 2 * i ≤ j + 2 * k → l + f ≤ b + m + n → a + g + 2 * (l + i) ≤ d + j + 2 * (m + k) + 2 * n
sum-powers a b d f g i j k l m n h q r = omega arith

-- ---- logarithms

module _ (s m m₀ m₁ l l₀ l₁ u v b t : ℕ) (pos : 0 < m) (steep : s ≤ 2 * m * b) where
  steeper : s * u + s * v ≤ 2 * (m * b * u) + 2 * (m * b * v)
  steeper = omega (arith, mul-le-mul_left (u + v) steep)

  under-times : (k f n : ℕ) → 2 * m * f + s * m ≤ 2 * m * l + s * n + 2 * m * t → 2 * (m * f * k) + s * m * k ≤ 2 * (m * l * k) + s * (k * n) + 2 * (m * t * k)
  under-times k f n h = omega (arith, mul-le-mul_left k h)

  over-times : (k f n : ℕ) → 2 * m * l + s * n ≤ 2 * m * f + s * m + 2 * m * t → 2 * (m * l * k) + s * (k * n) ≤ 2 * (m * f * k) + s * m * k + 2 * (m * t * k)
  over-times k f n h = omega (arith, mul-le-mul_left k h)

  pub logs-under : 2 * m * l₀ + s * m ≤ 2 * m * l + s * m₀ + 2 * m * t → 2 * m * l₁ + s * m ≤ 2 * m * l + s * m₁ + 2 * m * t
      → v * m₀ + u * m₁ ≤ (u + v) * (m + 1) → v * l₀ + u * l₁ ≤ (u + v) * (l + (b + t))
  logs-under h₀ h₁ near =
      let scaled : (v * l₀ + u * l₁) * (2 * m) ≤ (u + v) * (l + (b + t)) * (2 * m) =
      last (under-times v l₀ m₀ h₀) (under-times u l₁ m₁ h₁) (mid near) in
      le_of_mul-le-mul_right scaled (omega arith)
    where
      mid : v * m₀ + u * m₁ ≤ (u + v) * (m + 1) → s * (v * m₀) + s * (u * m₁) ≤ s * m * u + s * m * v + (2 * (m * b * u) + 2 * (m * b * v))
      mid n = omega (arith, mul-le-mul_left s n, steeper)

      last : 2 * (m * l₀ * v) + s * m * v ≤ 2 * (m * l * v) + s * (v * m₀) + 2 * (m * t * v) → 2 * (m * l₁ * u) + s * m * u ≤ 2 * (m * l * u) + s * (u * m₁) + 2 * (m * t * u)
          → s * (v * m₀) + s * (u * m₁) ≤ s * m * u + s * m * v + (2 * (m * b * u) + 2 * (m * b * v))
          → (v * l₀ + u * l₁) * (2 * m) ≤ (u + v) * (l + (b + t)) * (2 * m)
      last p q r = omega arith

  pub logs-over : 2 * m * l + s * m₀ ≤ 2 * m * l₀ + s * m + 2 * m * t → 2 * m * l + s * m₁ ≤ 2 * m * l₁ + s * m + 2 * m * t
      → (u + v) * m ≤ v * m₀ + u * m₁ + (u + v) → (u + v) * l ≤ v * l₀ + u * l₁ + (u + v) * (b + t)
  logs-over h₀ h₁ near =
      let scaled : (u + v) * l * (2 * m) ≤ (v * l₀ + u * l₁ + (u + v) * (b + t)) * (2 * m) =
      forms (sum-logs (m * l * v) (m * l * u) (s * (v * m₀)) (s * (u * m₁)) (m * l₀ * v) (m * l₁ * u) (s * m * v) (s * m * u) (m * t * v) (m * t * u) (m * b * u) (m * b * v) (over-times v l₀ m₀ h₀) (over-times u l₁ m₁ h₁) (mid near)) in
      le_of_mul-le-mul_right scaled (omega arith)
    where
      mid : (u + v) * m ≤ v * m₀ + u * m₁ + (u + v) → s * m * u + s * m * v ≤ s * (v * m₀) + s * (u * m₁) + (2 * (m * b * u) + 2 * (m * b * v))
      mid n = omega (arith, mul-le-mul_left s n, steeper)

      forms : 2 * (m * l * v) + 2 * (m * l * u) ≤ 2 * (m * l₀ * v) + 2 * (m * l₁ * u) + 2 * (m * t * v + m * t * u + m * b * u + m * b * v)
          → (u + v) * l * (2 * m) ≤ (v * l₀ + u * l₁ + (u + v) * (b + t)) * (2 * m)
      forms p = omega arith

-- ---- exponents: x is l * d / 365

pub record Cut (l d x : ℕ) : Type 0 where
  pub low : 365 * x ≤ l * d
  pub high : l * d ≤ 365 * x + 364

module _ (g u v l l₀ l₁ x x₀ x₁ a w e : ℕ) (c₀ : Cut l₀ g x₀) (c : Cut l (g + u) x) (c₁ : Cut l₁ (g + u + v) x₁)
    (few : 1456 + 4 * ((g + u) * a) + (u + v) * w ≤ 1460 * e) where
  abbrev left : ℕ
  left = (g + u) * ((u + v) * a)

  abbrev sloped : ℕ
  sloped = (g + u) * ((u + v) * l)

  room : 4 * (u * v * w) + 1456 * (u + v) + 4 * left ≤ 1460 * ((u + v) * e)
  room = go (mul-le-mul_right w (four-uv u v)) (mul-le-mul_left (u + v) few)
    where
      go : 4 * (u * v) * w ≤ (u + v) * (u + v) * w → (u + v) * (1456 + 4 * ((g + u) * a) + (u + v) * w) ≤ (u + v) * (1460 * e)
          → 4 * (u * v * w) + 1456 * (u + v) + 4 * left ≤ 1460 * ((u + v) * e)
      go h k = omega arith

  pub exponents-above : v * l₀ + u * l₁ ≤ (u + v) * (l + a) → l₁ ≤ l₀ + w → v * x₀ + u * x₁ ≤ (u + v) * (x + e)
  exponents-above near less =
      let first : 1460 * (v * x₀) ≤ 4 * (v * (l₀ * g)) = omega (arith, mul-le-mul_left (4 * v) c₀.low) in
      let second : 1460 * (u * x₁) ≤ 4 * (g * (u * l₁)) + 4 * (u * (u * l₁)) + 4 * (u * v * l₁) = omega (arith, mul-le-mul_left (4 * u) c₁.low) in
      let third : 4 * (u * v * l₁) ≤ 4 * (u * v * l₀) + 4 * (u * v * w) = omega (arith, mul-le-mul_left (4 * (u * v)) less) in
      let fourth : 4 * (v * (l₀ * g)) + 4 * (g * (u * l₁)) + 4 * (u * v * l₀) + 4 * (u * (u * l₁)) ≤ 4 * sloped + 4 * left = omega (arith, mul-le-mul_left (4 * (g + u)) near) in
      let fifth : 4 * sloped ≤ 1460 * ((u + v) * x) + 1456 * (u + v) = omega (arith, mul-le-mul_left (4 * (u + v)) c.high) in
      let all = sum-above (v * x₀) (u * x₁) ((u + v) * x) (u + v) (v * (l₀ * g)) (g * (u * l₁)) (u * (u * l₁)) (u * v * l₁) (u * v * l₀) sloped (u * v * w) ((u + v) * e) left first second third fourth fifth room in
      forms all
    where
      forms : v * x₀ + u * x₁ ≤ (u + v) * x + (u + v) * e → v * x₀ + u * x₁ ≤ (u + v) * (x + e)
      forms p = omega arith

  pub exponents-below : (u + v) * l ≤ v * l₀ + u * l₁ + (u + v) * a → l₀ ≤ l₁ + w → (u + v) * x ≤ v * x₀ + u * x₁ + (u + v) * e
  exponents-below near less =
      let first : 4 * (v * (l₀ * g)) ≤ 1460 * (v * x₀) + 1456 * v = omega (arith, mul-le-mul_left (4 * v) c₀.high) in
      let second : 4 * (g * (u * l₁)) + 4 * (u * (u * l₁)) + 4 * (u * v * l₁) ≤ 1460 * (u * x₁) + 1456 * u = omega (arith, mul-le-mul_left (4 * u) c₁.high) in
      let third : 4 * (u * v * l₀) ≤ 4 * (u * v * l₁) + 4 * (u * v * w) = omega (arith, mul-le-mul_left (4 * (u * v)) less) in
      let fourth : 4 * sloped ≤ 4 * (v * (l₀ * g)) + 4 * (g * (u * l₁)) + 4 * (u * v * l₀) + 4 * (u * (u * l₁)) + 4 * left = omega (arith, mul-le-mul_left (4 * (g + u)) near) in
      let fifth : 1460 * ((u + v) * x) ≤ 4 * sloped = omega (arith, mul-le-mul_left (4 * (u + v)) c.low) in
      sum_below (v * x₀) (u * x₁) ((u + v) * x) u v (v * (l₀ * g)) (g * (u * l₁)) (u * (u * l₁)) (u * v * l₁) (u * v * l₀) sloped (u * v * w) ((u + v) * e) left first second third fourth fifth room

-- and how far they are apart, k days later
pub exponents-apart : (d k l₀ l₁ x₀ x₁ most w c : ℕ) → Cut l₀ d x₀ → Cut l₁ (d + k) x₁ → Apart l₀ l₁ w → l₁ ≤ most
    → 364 + w * d + most * k ≤ 365 * c → Apart x₀ x₁ c
exponents-apart d k l₀ l₁ x₀ x₁ most w c c₀ c₁ a h few =
    let first : x₀ * 365 ≤ (x₁ + c) * 365 = omega (arith, c₀.low, c₁.high, mul-le-mul_right d a.above) in
    let second : x₁ * 365 ≤ (x₀ + c) * 365 = omega (arith, c₁.low, c₀.high, mul-le-mul_right d a.below, mul-le-mul_right k h) in
    record { above = le_of_mul-le-mul_right first (lit< tt); below = le_of_mul-le-mul_right second (lit< tt) }

-- ---- powers: each is above the others' tangents, less w

module _ (s : ℕ) where
  -- d is above the tangent of c
  abbrev pub Above : ℕ → ℕ → ℕ → ℕ → ℕ → Type 0
  Above c x d y w = s * c + 2 * (x * c) ≤ s * (d + w) + 2 * (y * c)

  -- two powers at exponents c apart
  pub powers-near : (p x q y c : ℕ) → 0 < s → Above p x q y 14 → y ≤ x + c → 64 * c ≤ s → 8 * p ≤ 9 * q + 128
  powers-near p x q y c pos h k few =
      let scaled : (31 * p) * s ≤ (32 * (q + 14)) * s = omega (arith, h, mul-le-mul_right p k, mul-le-mul_right p few) in
      omega (arith, le_of_mul-le-mul_right scaled pos)

  module _ (u v c₀ c c₁ x₀ x x₁ d e : ℕ) where
    pub powers-above : Above c x c₀ x₀ 14 → Above c x c₁ x₁ 14 → v * x₀ + u * x₁ ≤ (u + v) * (x + e)
        → s * ((u + v) * c) ≤ s * (v * c₀ + u * c₁ + (u + v) * 14) + 2 * ((u + v) * (e * c))
    powers-above h₀ h₁ near = omega (arith, mul-le-mul_left v h₀, mul-le-mul_left u h₁, mul-le-mul_right (2 * c) near)

    -- before the product of two differences is bounded
    powers-under : Above c₀ x₀ c x 14 → Above c₁ x₁ c x 14 → (u + v) * x ≤ v * x₀ + u * x₁ + (u + v) * e
        → s * (v * c₀ + u * c₁) + 2 * (u * (x * c₀ + x₁ * c₁)) ≤ s * ((u + v) * (c + 14)) + 2 * (u * (x₁ * c₀ + x * c₁)) + 2 * ((u + v) * (e * c₀))
    powers-under h₀ h₁ near =
        let first : s * (v * c₀) + 2 * (v * x₀ * c₀) ≤ (s * (v * c) + 14 * (s * v)) + 2 * (v * x * c₀) = omega (arith, mul-le-mul_left v h₀) in
        let second : s * (u * c₁) + 2 * (u * x₁ * c₁) ≤ (s * (u * c) + 14 * (s * u)) + 2 * (u * x * c₁) = omega (arith, mul-le-mul_left u h₁) in
        let third : u * x * c₀ + v * x * c₀ ≤ v * x₀ * c₀ + u * x₁ * c₀ + (u + v) * (e * c₀) = omega (arith, mul-le-mul_right c₀ near) in
        forms (sum-powers _ _ _ _ _ _ _ _ _ _ _ first second third)
      where
        forms : s * (v * c₀) + s * (u * c₁) + 2 * (u * x * c₀ + u * x₁ * c₁) ≤ (s * (v * c) + 14 * (s * v)) + (s * (u * c) + 14 * (s * u)) + 2 * (u * x₁ * c₀ + u * x * c₁) + 2 * ((u + v) * (e * c₀))
            → s * (v * c₀ + u * c₁) + 2 * (u * (x * c₀ + x₁ * c₁)) ≤ s * ((u + v) * (c + 14)) + 2 * (u * (x₁ * c₀ + x * c₁)) + 2 * ((u + v) * (e * c₀))
        forms p = omega arith

    -- p is s times what the powers are apart at most
    pub powers-below : (p : ℕ) → Above c₀ x₀ c x 14 → Above c₁ x₁ c x 14 → (u + v) * x ≤ v * x₀ + u * x₁ + (u + v) * e → Apart x₁ x d → Apart (s * c₀) (s * c₁) p
        → s * (s * (v * c₀ + u * c₁)) ≤ s * (s * ((u + v) * (c + 14))) + 2 * ((u + v) * (d * p)) + 2 * (s * ((u + v) * (e * c₀)))
    powers-below p h₀ h₁ near far apart =
        let product : u * (x₁ * (s * c₀) + x * (s * c₁)) ≤ u * (x * (s * c₀) + x₁ * (s * c₁) + d * p) = mul-le-mul_left u (cross-apart x₁ x (s * c₀) (s * c₁) d p far apart) in
        let turned : s * (u * (x₁ * c₀ + x * c₁)) ≤ s * (u * (x * c₀ + x₁ * c₁)) + (u + v) * (d * p) = omega (arith, product) in
        joined s (v * c₀ + u * c₁) (u * (x * c₀ + x₁ * c₁)) ((u + v) * (c + 14)) (u * (x₁ * c₀ + x * c₁)) ((u + v) * (e * c₀)) ((u + v) * (d * p)) (powers-under h₀ h₁ near) turned
      where
        joined : (s a b f g h i : ℕ) → s * a + 2 * b ≤ s * f + 2 * g + 2 * h → s * g ≤ s * b + i → s * (s * a) ≤ s * (s * f) + 2 * i + 2 * (s * h)
        joined s a b f g h i k l = omega (arith, mul-le-mul_left s k)
