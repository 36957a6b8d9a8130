-- Laws of rounding half up: it is within a half of the quotient, a multiple of the divisor comes out whole, and so does the quotient of a factor.
use mathlib.Core.Path.{◌≡◌, ap, sym, ◌∙◌}
use Prim.Native.Nat.{ℕ, ◌+◌, ◌*◌, ◌/◌, ◌%◌, ◌≤◌, ◌<◌}
use native.Mathlib.Nat.{mod-lt, add_comm, add-mul-div_right, mul-div-mul_right, div-le_of_le-mul, div-lt_iff_lt-mul, div-eq_of_lt, div-eq_of_lt-le, div-add-mod', le-div_iff_mul-le, div-mul-le_self, lt-div-mul-add, lt_of_mul-lt-mul_right, le_of_mul-le-mul_right, le_refl, mul-le-mul_left, mul-le-mul_right}
use native.Mathlib.Omega.{arith}
use Rattle.decimal.specs.Product.{unit}
use Rattle.decimal.specs.HalfUp.{half_up, discounted}
use Rattle.decimal.proofs.Products.{unit-pos}

-- ---- within a half of the quotient

pub half-up-low : (n d : ℕ) → half_up n d * (d * 2) ≤ n * 2 + d
unfolding half_up
half-up-low n d = div-mul-le_self (n * 2 + d) (d * 2)

pub half-up-high : (n d : ℕ) → 0 < d → n * 2 < half_up n d * (d * 2) + d
unfolding half_up
half-up-high n d h =
    let next : n * 2 + d < (n * 2 + d) / (d * 2) * (d * 2) + d * 2 = lt-div-mul-add (omega arith) in
    omega arith

-- a larger quotient is no less when rounded, whatever the divisors
pub half-up-across : (x y u z : ℕ) → 0 < u → 0 < z → x * z ≤ y * u → half_up x u ≤ half_up y z
unfolding half_up
half-up-across x y u z pu pz h =
    let v : ℕ = (x * 2 + u) / (u * 2) in
    let cut : v * (u * 2) ≤ x * 2 + u = div-mul-le_self (x * 2 + u) (u * 2) in
    let scaled : v * (z * 2) * u ≤ (y * 2 + z) * u = omega (arith, mul-le-mul_right z cut, h) in
    (le-div_iff_mul-le {k = z * 2} {x = v} {y = y * 2 + z} (omega arith)).1 (le_of_mul-le-mul_right scaled pu)

pub half-up-mono : {n m : ℕ} (d : ℕ) → 0 < d → n ≤ m → half_up n d ≤ half_up m d
half-up-mono {n} {m} d p h = half-up-across n m d d p p (mul-le-mul_right d h)

-- ---- as code takes it

pub half-up-multiple : (q r d : ℕ) → 0 < d → q + half_up r d ≡ half_up (q * d + r) d
unfolding half_up
half-up-multiple q r d h =
    let e : r * 2 + d + q * (d * 2) ≡ (q * d + r) * 2 + d = omega arith in
    add_comm q ((r * 2 + d) / (d * 2)) ∙ sym (add-mul-div_right (r * 2 + d) q (omega arith)) ∙ ap (λ (n : ℕ). n / (d * 2)) e

-- by an even divisor: half of it more, rounded down
pub half-up-even : (n h : ℕ) → 0 < h → (n + h) / (h * 2) ≡ half_up n (h * 2)
unfolding half_up
half-up-even n h p =
    let e : (n + h) * 2 ≡ n * 2 + h * 2 = omega arith in
    sym (mul-div-mul_right {m = 2} (n + h) (h * 2) (omega arith)) ∙ ap (λ (x : ℕ). x / (h * 2 * 2)) e

-- a rest is rounded up from a half on
pub half-up-rest : (r d : ℕ) → r < d → d ≤ r * 2 → half_up r d ≡ 1
unfolding half_up
half-up-rest r d l h = div-eq_of_lt-le (d * 2) (omega arith) (omega arith)

pub half-down-rest : (r d : ℕ) → r * 2 < d → half_up r d ≡ 0
unfolding half_up
half-down-rest r d h = div-eq_of_lt (omega arith)

-- x * t over d, with d taken out of x first
pub half-up-out : (x t d : ℕ) → 0 < d → x / d * t + half_up (x % d * t) d ≡ half_up (x * t) d
half-up-out x t d h =
    let e : x / d * t * d + x % d * t ≡ x * t = parts (x / d) (x % d) (div-add-mod' x d) in
    half-up-multiple (x / d * t) (x % d * t) d h ∙ ap (λ (n : ℕ). half_up n d) e
  where
    parts : (q r : ℕ) → q * d + r ≡ x → q * t * d + r * t ≡ x * t
    parts q r e = omega (arith, ap (λ (n : ℕ). n * t) e)

pub half-up-le : (x d : ℕ) → 0 < d → half_up x d ≤ x + 1
unfolding half_up
half-up-le x d h = div-le_of_le-mul (d * 2) {m = x * 2 + d} {n = x + 1} (omega (arith, mul-le-mul_right x h))

-- a quotient of at most m comes out as at most m
pub half-up-at-most : (n d m : ℕ) → 0 < d → n ≤ m * d → half_up n d ≤ m
unfolding half_up
half-up-at-most n d m h l =
    let below : (n * 2 + d) / (d * 2) < m + 1 = (div-lt_iff_lt-mul {k = d * 2} {x = n * 2 + d} {y = m + 1} (omega arith)).1 (omega arith) in
    omega arith

-- ---- an amount at a factor: within a half of the product over one, no more than the amount, and rising with the factor

pub discounted-low : (a f : ℕ) → discounted a f * (unit * 2) ≤ a * f * 2 + unit
unfolding discounted
discounted-low a f = half-up-low (a * f) unit

pub discounted-high : (a f : ℕ) → a * f * 2 < discounted a f * (unit * 2) + unit
unfolding discounted
discounted-high a f = half-up-high (a * f) unit unit-pos

pub discounted-le : (a f : ℕ) → f ≤ unit → discounted a f ≤ a
unfolding discounted
discounted-le a f h = half-up-at-most (a * f) unit a unit-pos (mul-le-mul_left a h)

pub discounted-mono : (a : ℕ) {f g : ℕ} → f ≤ g → discounted a f ≤ discounted a g
unfolding discounted
discounted-mono a h = half-up-mono unit unit-pos (mul-le-mul_left a h)

-- at one, the amount
pub discounted-one : (a : ℕ) → discounted a unit ≡ a
discounted-one a =
    let high : a * unit * 2 < discounted a unit * (unit * 2) + unit = discounted-high a unit in
    let least : a * (unit * 2) < (discounted a unit + 1) * (unit * 2) = omega (arith, unit-pos) in
    omega (arith, discounted-le a unit (le_refl unit), lt_of_mul-lt-mul_right (unit * 2) least)

-- what the functions of `round` are proved by
pub ruleset rounding = (half-up-out, half-up-le, half-up-even, half-up-rest, half-down-rest, half-up-multiple, mod-lt, div-add-mod')
