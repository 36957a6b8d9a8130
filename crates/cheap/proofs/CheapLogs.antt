-- The logarithm by a slope: at most that of m / (m + j), and at most 9,671,000 units under it.
use mathlib.Core.Path.{◌≡◌, ap}
use Prim.Native.Nat.{ℕ, ◌+◌, ◌-◌, ◌*◌, ◌/◌, ◌%◌, ◌^◌, ◌≤◌, ◌<◌}
use native.Mathlib.Nat.{le_trans, zero-mul, mul-le-mul, mul-le-mul_left, mul-le-mul_right, le_of_mul-le-mul_right, div-mul-le_self, lt-div-mul-add, le-div_iff_mul-le}
use native.Mathlib.Decide.{dec_le}
use native.Mathlib.Omega.{arith}
use lib.Dec.{lit<, lit≤}
use Rattle.discount.specs.Discount.{million}
use Rattle.logarithm.specs.Logarithms.{scale, base_numerator, base_denominator, log_of, log_slope}
use Rattle.logarithm.proofs.Exponents.{Logged, scale-is, scale-pos}
use Rattle.logarithm.proofs.Ratios.{ratio-most, ratio-least, logged-more, logged-wide}
use Rattle.logarithm.proofs.Rows.{slope-le, log-sum-le}
use Rattle.logarithm.proofs.Logarithms.{at_least, log-row}
use Rattle.cheap.specs.Cheap.{bend, risen, cheap_log}

-- ---- what is known of a rise t, and of w and g on the way to its square in parts of scale

pub record Bent (t w g : ℕ) : Type 0 where
  pub part : w * 2097152 ≤ t
  pub rest : t < w * 2097152 + 2097152
  pub square : g * 1024 ≤ w * w
  pub square_rest : w * w < g * 1024 + 1024
  pub few : t ≤ 4609434217211

pub bent : (t : ℕ) → t ≤ 4609434217211 → Bent t (t / 2097152) (bend t)
unfolding bend
bent t l =
    record {
      part = div-mul-le_self t 2097152;
      rest = lt-div-mul-add (lit< tt);
      square = div-mul-le_self _ 1024;
      square_rest = lt-div-mul-add (lit< tt);
      few = l;
    }

module _ (t w g : ℕ) (b : Bent t w g) where
  pub part-le : w ≤ 2197952
  part-le = omega (arith, b.part, b.few)

  pub square_le : w * w ≤ 2197952 * w
  square_le = mul-le-mul_right w part-le

  -- the rise is no less than its bend
  pub bend-le : g ≤ t
  bend-le = omega (arith, b.square, b.part, square_le)

  squares-high : g * scale ≤ t * t
  squares-high = rw scale-is (omega (arith, mul-le-mul b.part b.part, mul-le-mul_right 4398046511104 b.square))

  squares-low : t * t ≤ g * scale + 4194304 * t + scale
  squares-low =
      let up : t ≤ (w + 1) * 2097152 = omega (arith, b.rest) in
      let wide : w * w ≤ g * 1024 + 1023 = omega (arith, b.square_rest) in
      rw scale-is (omega (arith, mul-le-mul up up, mul-le-mul_right 4398046511104 wide, mul-le-mul_right 4194304 b.part))

  rise-few : t * t ≤ 4718000000 * scale
  rise-few = rw scale-is (le_trans (mul-le-mul b.few b.few) (lit≤ tt))

  below-scale : (n : ℕ) → n ≤ t + 9671000 → n ≤ scale
  below-scale n h = rw scale-is (omega (arith, b.few))

  wide_enough : (n : ℕ) → n ≤ t + 9671000 → n * n + n ≤ 4718000000 * (scale + 4718000000)
  wide_enough n h =
      let l : n ≤ 4609443888211 = omega (arith, b.few) in
      rw scale-is (omega (arith, mul-le-mul l l))

-- ---- over plain numbers: s for scale, d for the rise less its bend

-- u is no less than d and the square of u
most-of : (m j u d s : ℕ) → 0 < s → d * s + u * u ≤ u * s → u ≤ s → 2 * m * u ≤ s * j → d * (2 * m + j) ≤ s * j
most-of m j u d s pos inner l h =
    let b : ℕ = s * j - 2 * m * u in
    let e : s * j ≡ 2 * m * u + b = omega arith in
    le_of_mul-le-mul_right (last b (mul-le-mul_right (2 * m + j) inner) (ap (λ (n : ℕ). s * n) e) (ap (λ (n : ℕ). u * n) e) (mul-le-mul_right b l)) pos
  where
    last : (b : ℕ) → (d * s + u * u) * (2 * m + j) ≤ u * s * (2 * m + j) → s * (s * j) ≡ s * (2 * m * u + b) → u * (s * j) ≡ u * (2 * m * u + b)
        → u * b ≤ s * b → d * (2 * m + j) * s ≤ s * j * s
    last b i e f k = omega arith

-- what a slope is less makes up for what the bend is less
made_up : (j t g d s : ℕ) → s ≤ s * j → d * s + g * s ≡ t * s → 41943040 * t ≤ 21 * (s * j) → 80 * (j * t) + 160 * (j * j) ≤ s * j
    → t * t ≤ g * s + 4194304 * t + s → d * s + (t + 4 * j) * (t + 4 * j) ≤ (t + 4 * j) * s
made_up j t g d s one sum cross small sq = omega arith

least-of : (m j t g d s : ℕ) → 0 < s → d + g ≡ t → g * s ≤ t * t → 2 * m * t ≤ s * j → s * j ≤ 2 * m * t + 10 * j * m → t * t ≤ 4718000000 * s
    → 1000000 ≤ m → j < 2048 → (s + 4718000000) * j ≤ (d + 9671000) * (2 * m + j)
least-of m j t g d s pos sum sq h r few large k =
    let b : ℕ = s * j - 2 * m * t in
    let e : s * j ≡ 2 * m * t + b = omega arith in
    let inner : t * s ≤ d * s + t * t = omega (arith, ap (λ (n : ℕ). n * s) sum) in
    let less : j ≤ 2047 = omega arith in
    let steep : 4718000000 * j ≤ 4830000 * (2 * m + j) = omega arith in
    let short : 10 * j * m ≤ 10235 * (2 * m + j) = omega (arith, mul-le-mul_right m less) in
    le_of_mul-le-mul_right
    (last b (mul-le-mul_right (2 * m + j) inner) (ap (λ (n : ℕ). s * n) e) (ap (λ (n : ℕ). t * n) e) (mul-le-mul_left s (omega arith))
    (mul-le-mul_left j few) (mul-le-mul_left s steep) (mul-le-mul_left s short))
    pos
  where
    last : (b : ℕ) → t * s * (2 * m + j) ≤ (d * s + t * t) * (2 * m + j) → s * (s * j) ≡ s * (2 * m * t + b) → t * (s * j) ≡ t * (2 * m * t + b)
        → s * b ≤ s * (10 * j * m) → j * (t * t) ≤ j * (4718000000 * s)
        → s * (4718000000 * j) ≤ s * (4830000 * (2 * m + j)) → s * (10 * j * m) ≤ s * (10235 * (2 * m + j))
        → (s + 4718000000) * j * s ≤ (d + 9671000) * (2 * m + j) * s
    last b i e f g h p q = omega arith

-- ---- a rise of j slopes, from row i

module _ (i j : ℕ) (l : j < 2048) where
  abbrev m : ℕ
  m = million + 2048 * i

  abbrev t : ℕ
  t = j * log_slope i

  -- a row's slope, before the little that it is less
  abbrev whole-slope : ℕ
  whole-slope = 2251799813685248 / (million + 2048 * i)

  slope-sum : i ≤ 488 → log_slope i + 4 ≡ whole-slope
  unfolding log_slope million
  slope-sum few =
      let some : 4 ≤ 2251799813685248 / (1000000 + 2048 * i) = (le-div_iff_mul-le {k = 1000000 + 2048 * i} {x = 4} {y = 2251799813685248} (omega arith)).1 (omega arith) in
      omega arith

  slope-most : i ≤ 488 → 2 * m * (log_slope i + 4) ≤ scale
  unfolding scale
  slope-most few = rw (slope-sum few) (omega (arith, div-mul-le_self 2251799813685248 (million + 2048 * i)))

  slope-least : i ≤ 488 → scale ≤ 2 * m * log_slope i + 10 * m
  unfolding scale
  slope-least few =
      let rest : 2251799813685248 < whole-slope * m + m = lt-div-mul-add (omega (arith, at_least i)) in
      omega (arith, ap (λ (n : ℕ). n * m) (slope-sum few))

  pub rise-le : t ≤ 4609434217211
  rise-le =
      let few : j ≤ 2047 = omega arith in
      le_trans (mul-le-mul few (slope-le i)) (lit≤ tt)

  abbrev w : ℕ
  w = t / 2097152

  known : Bent t w (bend t)
  known = bent t rise-le

  sum : risen i j + bend t ≡ t
  unfolding risen
  sum = omega (arith, bend-le t w (bend t) known)

  pub risen-le : risen i j ≤ t
  risen-le = omega (arith, sum)

  module _ (few : i ≤ 488) where
    along-low : 2 * m * (t + 4 * j) ≤ scale * j
    along-low = omega (arith, mul-le-mul_left j (slope-most few))

    along-high : scale * j ≤ 2 * m * t + 10 * j * m
    along-high = omega (arith, mul-le-mul_left j (slope-least few))

    risen-inner : 1 ≤ j → risen i j * scale + (t + 4 * j) * (t + 4 * j) ≤ (t + 4 * j) * scale
    risen-inner some =
        let slope : t ≤ 2251799809 * j = omega (arith, mul-le-mul_left j (slope-le i)) in
        let less : j ≤ 2047 = omega arith in
        let one : scale ≤ scale * j = omega (arith, mul-le-mul_left scale some) in
        let cross : 41943040 * t ≤ 21 * (scale * j) = rw scale-is (omega arith) in
        let small : 80 * (j * t) + 160 * (j * j) ≤ scale * j = rw scale-is (omega (arith, mul-le-mul_left j rise-le, mul-le-mul_left j less)) in
        made_up j t (bend t) (risen i j) scale one (omega (arith, ap (λ (n : ℕ). n * scale) sum)) cross small (squares-low t w (bend t) known)

    risen-under : risen i j * (2 * m + j) ≤ scale * j
    risen-under =
        elim (dec_le j 0) [
          | yes none ↦ nothing (omega arith)
          | no some ↦ most-of m j (t + 4 * j) (risen i j) scale scale-pos (risen-inner (omega arith)) (below-scale t w (bend t) known (t + 4 * j) (omega arith)) along-low
        ]
      where
        nothing : j ≡ 0 → risen i j * (2 * m + j) ≤ scale * j
        nothing e =
            let flat : j * log_slope i ≡ 0 = rw e (zero-mul (log_slope i)) in
            let none : risen i j ≡ 0 = omega (arith, risen-le, flat) in
            rw none (omega arith)

    risen-most : m * base_denominator ^ risen i j ≤ (m + j) * base_numerator ^ risen i j
    risen-most = ratio-most m j (risen i j) (below-scale t w (bend t) known (risen i j) (omega (arith, risen-le))) risen-under

    risen-least : (m + j) * base_numerator ^ (risen i j + 9671000) ≤ m * base_denominator ^ (risen i j + 9671000)
    risen-least =
        let d : ℕ = risen i j + 9671000 in
        let near : d ≤ t + 9671000 = omega (arith, risen-le) in
        ratio-least m j d (below-scale t w (bend t) known d near) 4718000000 (lit< tt) (wide_enough t w (bend t) known d near)
        (least-of m j t (bend t) (risen i j) scale scale-pos sum (squares-high t w (bend t) known) (omega (arith, along-low)) along-high
        (rise-few t w (bend t) known) (at_least i) l)

pub cheap-log-near : (r : ℕ) → r ≤ 1000000 → Logged (million + r) (cheap_log r) 9700000
unfolding cheap_log
cheap-log-near r l =
    let i : ℕ = r / 2048 in
    let j : ℕ = r % 2048 in
    let few : j < 2048 = omega arith in
    let row : i ≤ 488 = omega arith in
    let next : Logged (million + 2048 * i + j) (log_of i + risen i j) (32 * i + 9671000) =
    logged-more (million + 2048 * i) (log_of i) (32 * i) j (risen i j) 9671000 (log-row i) (risen-most i j few row) (risen-least i j few row) in
    let same : million + 2048 * i + j ≡ million + r = omega arith in
    let wide : 32 * i + 9671000 ≤ 9700000 = omega arith in
    rw same at (logged-wide _ _ _ _ next wide)

pub cheap-log-le : (r : ℕ) → r ≤ 1000000 → cheap_log r ≤ 1564789514502464
unfolding cheap_log
cheap-log-le r l =
    let few : r % 2048 < 2048 = omega arith in
    log-sum-le r l (risen (r / 2048) (r % 2048)) (omega (arith, risen-le (r / 2048) (r % 2048) few, rise-le (r / 2048) (r % 2048) few))
