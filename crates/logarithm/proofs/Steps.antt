-- The step of the logarithms: at most that of m / (m + j), and at most 32 units under it.
use mathlib.Core.Path.{◌≡◌, refl, ap, sym}
use Prim.Native.Nat.{ℕ, ◌+◌, ◌-◌, ◌*◌, ◌/◌, ◌^◌, ◌≤◌, ◌<◌}
use native.Mathlib.Nat.{le_trans, mul-le-mul, mul-le-mul_left, mul-le-mul_right, le_of_mul-le-mul_right, div-mul-le_self, lt-div-mul-add, div-lt_iff_lt-mul}
use native.Mathlib.Decide.{dec_le}
use native.Mathlib.Omega.{arith}
use lib.Dec.{lit<, lit≤}
use Rattle.logarithm.specs.Logarithms.{scale, base_numerator, base_denominator, first_term, third_term, step}
use Rattle.logarithm.proofs.Pade.{Short}
use Rattle.logarithm.proofs.Exponents.{scale-is, scale-pos, third-low, third-high}
use Rattle.logarithm.proofs.Ratios.{ratio-most, third-most, third-least}

-- ---- the third term: w for the first, a and b on the way

-- 3 scale scale, and that with what the divisor has more; shut, so that `omega` meets no number of too many digits
unfoldable cube : ℕ
cube = 60847228810955011271841753858048

unfoldable wider : ℕ
wider = 60848157265984475307047928201216

record Third (w a b q : ℕ) : Type 0 where
  cut : a * 524288 ≤ w
  rest : w < a * 524288 + 524288
  cut₂ : b * 64 ≤ a * a
  rest₂ : a * a < b * 64 + 64
  cut₃ : q * 6597170429952 ≤ b * a
  rest₃ : b * a < q * 6597170429952 + 6597170429952
  few : w ≤ 4606968482701

-- what the parts are at most
pub first-le : (m j : ℕ) → 1000000 ≤ m → j ≤ 2048 → first_term m j ≤ 4606968482701
unfolding first_term scale
first-le m j l h =
    let less : first_term m j < 4606968482702 = (div-lt_iff_lt-mul {k = 2 * m + j} (omega arith)).1 (omega arith) in
    omega arith

pub a-le : (w a : ℕ) → a * 524288 ≤ w → w ≤ 4606968482701 → a ≤ 8787095
a-le w a h l = omega arith

pub b-le : (a b : ℕ) → b * 64 ≤ a * a → a ≤ 8787095 → b ≤ 1206453727172
b-le a b h l =
    let square : a * a ≤ 8787095 * 8787095 = mul-le-mul l l in
    omega arith

pub q-le : (a b q : ℕ) → q * 6597170429952 ≤ b * a → a ≤ 8787095 → b ≤ 1206453727172 → q ≤ 1606934
q-le a b q h l k =
    let product : b * a ≤ 1206453727172 * 8787095 = mul-le-mul k l in
    omega arith

third_of : (w : ℕ) → w ≤ 4606968482701 → Third w (w / 524288) (w / 524288 * (w / 524288) / 64) (third_term w)
unfolding third_term
third_of w l =
    let a : ℕ = w / 524288 in
    let b : ℕ = a * a / 64 in
    record {
      cut = div-mul-le_self w 524288;
      rest = lt-div-mul-add (lit< tt);
      cut₂ = div-mul-le_self (a * a) 64;
      rest₂ = lt-div-mul-add (lit< tt);
      cut₃ = div-mul-le_self (b * a) 6597170429952;
      rest₃ = lt-div-mul-add (lit< tt);
      few = l;
    }

third-le : (w a b q : ℕ) → Third w a b q → q ≤ 1606934
third-le w a b q s =
    let l = a-le w a s.cut s.few in
    q-le a b q s.cut₃ l (b-le a b s.cut₂ l)

pub step-le : (m j : ℕ) → 1000000 ≤ m → j ≤ 2048 → step m j ≤ 4606970089635
unfolding step
step-le m j l h =
    let w = first-le m j l h in
    omega (arith, w, third-le (first_term m j) _ _ _ (third_of (first_term m j) w))

-- ---- it is at most w w w / (3 scale scale), and a little less

cubed : (w a b q : ℕ) → Third w a b q → q * wider ≤ w * w * w
unfolding wider
cubed w a b q s =
    let one : q * 422218907516928 ≤ a * a * a = omega (arith, mul-le-mul_right a s.cut₂, s.cut₃) in
    let all : a * 524288 * (a * 524288) * (a * 524288) ≤ w * w * w = mul-le-mul (mul-le-mul s.cut s.cut) s.cut in
    le_trans (last q a one) all
  where
    last : (q a : ℕ) → q * 422218907516928 ≤ a * a * a → q * 60848157265984475307047928201216 ≤ a * 524288 * (a * 524288) * (a * 524288)
    last q a h = omega (arith, mul-le-mul_right 144115188075855872 h)

-- ---- so the step is at most the logarithm: with k for what scale is more than t

-- 3 scale scale q + 3 scale k w is at most w w w, where w is large enough for k
room : (w q x y : ℕ) → 65537 * x ≤ 65536 * w → 65537 * y ≤ w → x + y ≤ w
room w q x y h k = omega arith

wide_enough : (q : ℕ) → 65537 * (q * cube) ≡ 65536 * (q * wider)
unfolding cube wider
wide_enough q = omega arith

fits : (w q k : ℕ) → q * wider ≤ w * w * w → 65537 * (3 * scale * k) ≤ w * w → q * cube + 3 * scale * k * w ≤ w * w * w
fits w q k h l =
    room (w * w * w) q (q * cube) (3 * scale * k * w) (omega (arith, wide_enough q, mul-le-mul_left 65536 h)) (omega (arith, mul-le-mul_right w l))

cube-is : cube ≡ 3 * scale * scale
unfolding cube scale
cube-is = refl

-- over plain numbers: s for scale
condition : (m j w q s t k : ℕ) → 0 < s → t + k ≡ s → w * (2 * m + j) ≤ s * j → q * (3 * s * s) + 3 * s * k * w ≤ w * w * w
    → 3 * t * (w + q) * (2 * m + j) ≤ j * (3 * t * t + (w + q) * (w + q))
condition m j w q s t k pos e h l =
    let d : ℕ = w + q in
    let less : t ≤ s = omega arith in
    let inner : 3 * t * d * s ≤ w * (3 * t * t + d * d) = core w q s t k e less l in
    let scaled : 3 * t * d * (2 * m + j) * s ≤ j * (3 * t * t + d * d) * s =
    outer (3 * t * d) (2 * m + j) s (3 * t * t + d * d) w j inner h in
    le_of_mul-le-mul_right scaled pos
  where
    outer : (x b s y w j : ℕ) → x * s ≤ w * y → w * b ≤ s * j → x * b * s ≤ j * y * s
    outer x b s y w j g h = omega (arith, mul-le-mul_right b g, mul-le-mul_right y h)

    core : (w q s t k : ℕ) → t + k ≡ s → t ≤ s → q * (3 * s * s) + 3 * s * k * w ≤ w * w * w → 3 * t * (w + q) * s ≤ w * (3 * t * t + (w + q) * (w + q))
    core w q s t k e g l =
        let one : t * (w * s) ≡ t * (w * (t + k)) = ap (λ (z : ℕ). t * (w * z)) (sym e) in
        omega (arith, one, mul-le-mul_right (s * q) g, mul-le-mul_right (k * w) g)

short-one : Short 4503599627370495 1 810002892484682238487290
short-one = record { covers = lit≤ tt; few = lit≤ tt }

short-two : Short 4503599627369856 640 21224173406796126904522860
short-two = record { covers = lit≤ tt; few = lit≤ tt }

one-is : 4503599627370495 + 1 ≡ scale
unfolding scale
one-is = refl

two_is : 4503599627369856 + 640 ≡ scale
unfolding scale
two_is = refl

-- w is large where q is not 0
large : (w q : ℕ) → q * wider ≤ w * w * w → 0 < q → 30000000000 ≤ w
unfolding wider
large w q h l =
    elim (dec_le 30000000000 w) [ yes k ↦ k | no k ↦ absurd (omega (arith, small w (omega arith))) ]
  where
    small : (w : ℕ) → w ≤ 29999999999 → w * w * w ≤ 29999999999 * 29999999999 * 29999999999
    small w l = mul-le-mul (mul-le-mul l l) l

squared : (w x k c : ℕ) → x ≤ w → c ≤ x * x → c ≤ w * w
squared w x k c l h = le_trans h (mul-le-mul l l)

many-one : 65537 * (3 * scale * 1) ≤ 30000000000 * 30000000000
unfolding scale
many-one = lit≤ tt

many-two : 65537 * (3 * scale * 640) ≤ 900000000001 * 900000000001
unfolding scale
many-two = lit≤ tt

module _ (m j w a b q : ℕ) (s : Third w a b q) (cut : w * (2 * m + j) ≤ scale * j) where
  most-with : (k t e : ℕ) → t + k ≡ scale → Short t k e → w + q ≤ t → 0 < w → (w + q) * (w + q) + (w + q) ≤ e → 65537 * (3 * scale * k) ≤ w * w
      → m * base_denominator ^ (w + q) ≤ (m + j) * base_numerator ^ (w + q)
  most-with k t e same short less pos l many =
      let p : ℕ = t - (w + q) in
      let sum : t ≡ p + (w + q) = omega arith in
      let room' : q * (3 * scale * scale) + 3 * scale * k * w ≤ w * w * w = rw cube-is at (fits w q k (cubed w a b q s) many) in
      third-most m j (w + q) p t sum (omega arith) (third-low (w + q) p k e t sum same l short)
      (condition m j w q scale t k scale-pos same cut room')

  square : (d x e : ℕ) → d ≤ x → x * x + x ≤ e → d * d + d ≤ e
  square d x e l h = omega (arith, mul-le-mul l l)

  most : m * base_denominator ^ (w + q) ≤ (m + j) * base_numerator ^ (w + q)
  most =
      let few = third-le w a b q s in
      elim (dec_le q 0) [
        | yes none ↦ whole' (omega arith)
        | no some ↦
            let wide = large w q (cubed w a b q s) (omega arith) in
            elim (dec_le w 900000000000) [
              | yes l ↦ most-with 1 4503599627370495 810002892484682238487290 one-is short-one (omega arith) (omega arith) (square (w + q) 900001606934 810002892484682238487290 (omega arith) (lit≤ tt)) (squared w 30000000000 1 _ wide many-one)
              | no l ↦ most-with 640 4503599627369856 21224173406796126904522860 two_is short-two (omega (arith, s.few)) (omega arith) (square (w + q) 4606970089635 21224173406796126904522860 (omega (arith, s.few)) (lit≤ tt)) (squared w 900000000001 640 _ (omega arith) many-two)
            ]
      ]
    where
      whole' : q ≡ 0 → m * base_denominator ^ (w + q) ≤ (m + j) * base_numerator ^ (w + q)
      whole' e =
          let same : w + q ≡ w = omega arith in
          rw same (ratio-most m j w (omega (arith, s.few, scale-is)) cut)

-- ---- and 32 units more are at least the logarithm

-- the cube of w + 1, in cubes
above : (w a b q : ℕ) → Third w a b q → (w + 1) * (w + 1) * (w + 1) ≤ (q + 27) * cube
unfolding cube
above w a b q s =
    let few = third-le w a b q s in
    let l = a-le w a s.cut s.few in
    let y : w + 1 ≤ (a + 1) * 524288 = omega (arith, s.rest) in
    let all : (w + 1) * (w + 1) * (w + 1) ≤ (a + 1) * 524288 * ((a + 1) * 524288) * ((a + 1) * 524288) = mul-le-mul (mul-le-mul y y) y in
    let one : a * a * a ≤ a * (b * 64 + 63) = parts a b s.rest₂ in
    le_trans all (last a b q one s.rest₃ (mul-le-mul l l) l few)
  where
    parts : (a b : ℕ) → a * a < b * 64 + 64 → a * a * a ≤ a * (b * 64 + 63)
    parts a b h =
        let less : a * a ≤ b * 64 + 63 = omega arith in
        omega (arith, mul-le-mul_left a less)

    last : (a b q : ℕ) → a * a * a ≤ a * (b * 64 + 63) → b * a < q * 6597170429952 + 6597170429952 → a * a ≤ 8787095 * 8787095 → a ≤ 8787095 → q ≤ 1606934
        → (a + 1) * 524288 * ((a + 1) * 524288) * ((a + 1) * 524288) ≤ (q + 27) * 60847228810955011271841753858048
    last a b q h r k l f = omega arith

twice : 1606965 * 42448324604456243951661038 ≤ 2 * cube
unfolding cube
twice = lit≤ tt

-- what the square of w + q + 32 has more
beyond : (y g : ℕ) → y ≤ 4606968482702 → g ≤ 1606965 → y * (y + g) * (y + g) ≤ y * y * y + 2 * cube
beyond y g l h =
    let c : y * (2 * y + g) ≤ 42448324604456243951661038 = bound y g l h in
    let product : g * (y * (2 * y + g)) ≤ 1606965 * 42448324604456243951661038 = mul-le-mul h c in
    joined y g (2 * cube) (le_trans product twice)
  where
    bound : (y g : ℕ) → y ≤ 4606968482702 → g ≤ 1606965 → y * (2 * y + g) ≤ 42448324604456243951661038
    bound y g l h =
        let sum : 2 * y + g ≤ 9213938572369 = omega arith in
        mul-le-mul l sum

    joined : (y g z : ℕ) → g * (y * (2 * y + g)) ≤ z → y * (y + g) * (y + g) ≤ y * y * y + z
    joined y g z h = omega arith

-- over plain numbers: s for scale
reached : (m j w q s v : ℕ) → 0 < s → v ≡ w + q + 32 → s * j < w * (2 * m + j) + (2 * m + j) → (w + 1) * v * v ≤ (q + 31) * (3 * s * s)
    → j * (3 * s * s + v * v) ≤ 3 * s * v * (2 * m + j)
reached m j w q s v pos e h l =
    let inner : (w + 1) * (3 * s * s + v * v) ≤ 3 * s * v * s = core w q s v e l in
    let scaled : j * (3 * s * s + v * v) * s ≤ 3 * s * v * (2 * m + j) * s = outer (3 * s * v) (2 * m + j) s (3 * s * s + v * v) w j inner h in
    le_of_mul-le-mul_right scaled pos
  where
    core : (w q s v : ℕ) → v ≡ w + q + 32 → (w + 1) * v * v ≤ (q + 31) * (3 * s * s) → (w + 1) * (3 * s * s + v * v) ≤ 3 * s * v * s
    core w q s v e l =
        let one : s * s * v ≡ s * s * (w + q + 32) = ap (λ (z : ℕ). s * s * z) e in
        omega (arith, one)

    outer : (x b s y w j : ℕ) → (w + 1) * y ≤ x * s → s * j < w * b + b → j * y * s ≤ x * b * s
    outer x b s y w j g h =
        let less : s * j ≤ (w + 1) * b = omega arith in
        omega (arith, mul-le-mul_right b g, mul-le-mul_right y less)

module _ (m j w a b q : ℕ) (s : Third w a b q) (rest : scale * j < w * (2 * m + j) + (2 * m + j)) where
  least : (m + j) * base_numerator ^ (w + q + 32) ≤ m * base_denominator ^ (w + q + 32)
  least =
      let few = third-le w a b q s in
      let v : ℕ = w + q + 32 in
      let p : ℕ = scale - v in
      let fits' : v ≤ scale = omega (arith, s.few, scale-is) in
      let sum : scale ≡ p + v = omega arith in
      let g : ℕ = q + 31 in
      let same : v ≡ (w + 1) + g = omega arith in
      let more : (w + 1) * ((w + 1) + g) * ((w + 1) + g) ≤ (w + 1) * (w + 1) * (w + 1) + 2 * cube = beyond (w + 1) g (omega (arith, s.few)) (omega arith) in
      let all : (w + 1) * v * v ≤ (q + 31) * cube = rw same (omega (arith, more, above w a b q s)) in
      third-least m j v p scale sum (omega arith) (third-high v p (sym sum)) (reached m j w q scale v scale-pos refl rest (rw cube-is at all))

-- ---- the step

module _ (m j : ℕ) (l : 1000000 ≤ m) (h : j ≤ 2048) where
  pub step-most : m * base_denominator ^ step m j ≤ (m + j) * base_numerator ^ step m j
  unfolding step first_term
  step-most = most m j (first_term m j) _ _ _ (third_of (first_term m j) (first-le m j l h)) (div-mul-le_self (scale * j) (2 * m + j))

  pub step-least : (m + j) * base_numerator ^ (step m j + 32) ≤ m * base_denominator ^ (step m j + 32)
  unfolding step first_term
  step-least = least m j (first_term m j) _ _ _ (third_of (first_term m j) (first-le m j l h)) (lt-div-mul-add (omega arith))
