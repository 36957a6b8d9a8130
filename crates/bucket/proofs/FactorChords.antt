-- The cheap factor of a day on a line of rates is near the chord of those of a day before it and one behind it.
use mathlib.Core.Path.{◌≡◌}
use Prim.Native.Nat.{ℕ, ◌+◌, ◌*◌, ◌/◌, ◌≤◌, ◌<◌}
use native.Mathlib.Nat.{le_trans, mul-le-mul, mul-le-mul_left, mul-le-mul_right, le_of_mul-le-mul_right, div-mul-le_self, lt-div-mul-add}
use native.Mathlib.Decide.{dec_le}
use native.Mathlib.Omega.{arith}
use lib.Dec.{lit<, lit≤}
use Rattle.discount.specs.Discount.{million}
use Rattle.logarithm.specs.Logarithms.{scale}
use Rattle.logarithm.proofs.Exponents.{scale-pos}
use Rattle.logarithm.proofs.Ratios.{logged_none, logged-wide}
use Rattle.logarithm.proofs.Rows.{exponent-le}
use Rattle.cheap.specs.Cheap.{whole, cheap_log, cheap_power, cheap_factor}
use Rattle.cheap.proofs.CheapLogs.{cheap-log-near, cheap-log-le}
use Rattle.cheap.proofs.Powers.{whole_pos, power-low, power-high}
use Rattle.bucket.specs.Convexity.{Apart, Straight, logs_apart, log_off, exponents_apart, exponent_off, squared, bent, convexity}
use Rattle.bucket.proofs.Tangents.{above-tangent, under-tangent}
use Rattle.bucket.proofs.Chords.{tangent-near, logs-under, logs-over, Cut, exponents-above, exponents-below, exponents-apart, Above, powers-near, powers-above, powers-below}

-- ---- logarithms of rates

abbrev m : ℕ → ℕ
m r = million + r

m-pos : (r : ℕ) → 0 < m r
unfolding million
m-pos r = omega arith

steep : (r : ℕ) → scale ≤ 2 * m r * 2251799814
unfolding million scale
steep r = omega arith

-- the rates r and q, at most j apart
module _ (r q : ℕ) (lr : r ≤ 1000000) (lq : q ≤ 1000000) where
  tangent : 2 * m r * cheap_log q + scale * m r ≤ 2 * m r * cheap_log r + scale * m q + 2 * m r * 9700000
  tangent = under-tangent (m r) (cheap_log r) (m q) (cheap_log q) 9700000 (cheap-log-near r lr) (cheap-log-near q lq)

  logs-less : (j : ℕ) → q ≤ r + j → cheap_log q ≤ cheap_log r + logs_apart j
  unfolding logs_apart
  logs-less j h =
      let far : m q ≤ m r + j = omega arith in
      let scaled : cheap_log q * (2 * m r) ≤ (cheap_log r + (2251799814 * j + 9700000)) * (2 * m r) =
      omega (arith, tangent, mul-le-mul_left scale far, mul-le-mul_right j (steep r)) in
      le_of_mul-le-mul_right scaled (omega (arith, m-pos r))

squares : (a b j : ℕ) → 1000000 ≤ a → 1000000 ≤ b → scale * (j * j) ≤ 2 * (a * b) * (2252 * (j * j))
unfolding scale
squares a b j h k = omega (arith, mul-le-mul_right (j * j) (mul-le-mul h k))

at-million : (r : ℕ) → 1000000 ≤ m r
unfolding million
at-million r = omega arith

tangent-over : (r q j : ℕ) → r ≤ 1000000 → q ≤ 1000000 → Apart r q j
    → 2 * m r * cheap_log r + scale * m q ≤ 2 * m r * cheap_log q + scale * m r + 2 * m r * (9700000 + 2252 * (j * j))
tangent-over r q j lr lq a =
    tangent-near scale (m r) (cheap_log r) (m q) (cheap_log q) 9700000 j (2252 * (j * j)) (m-pos q) (record { above = omega (arith, a.above); below = omega (arith, a.below) })
    (squares (m r) (m q) j (at-million r) (at-million q)) (tangent q r lq lr)

steep-million : scale ≤ 2 * million * 2251799814
unfolding million scale
steep-million = lit≤ tt

log-most : (r : ℕ) → r ≤ 1000000 → cheap_log r ≤ logs_apart r
unfolding logs_apart
log-most r l =
    let h = under-tangent million 0 (m r) (cheap_log r) 9700000 (logged-wide million 0 0 9700000 logged_none (omega arith)) (cheap-log-near r l) in
    let scaled : cheap_log r * (2 * million) ≤ (2251799814 * r + 9700000) * (2 * million) = omega (arith, h, mul-le-mul_right r steep-million) in
    le_of_mul-le-mul_right scaled (omega (arith, m-pos 0))

logs-mono : (r most : ℕ) → r ≤ most → logs_apart r ≤ logs_apart most
unfolding logs_apart
logs-mono r most h = omega arith

-- ---- exponents and powers of a rate and a day

abbrev exponent_of : ℕ → ℕ → ℕ
exponent_of r d = cheap_log r * d / 365

cut : (r d : ℕ) → Cut (cheap_log r) d (exponent_of r d)
cut r d =
    let high : cheap_log r * d < exponent_of r d * 365 + 365 = lt-div-mul-add (lit< tt) in
    record { low = omega (arith, div-mul-le_self (cheap_log r * d) 365); high = omega arith }

above : (r d q e : ℕ) → q ≤ 1000000 → e ≤ 10950 → Above scale (cheap_factor r d) (exponent_of r d) (cheap_factor q e) (exponent_of q e) 14
unfolding cheap_factor
above r d q e l k =
    let x : ℕ = exponent_of r d in
    let y : ℕ = exponent_of q e in
    let c : ℕ = cheap_power x in
    let f : ℕ = cheap_power y in
    let all = above-tangent whole c x whole (f + 14) y (power-low x) (power-high y (exponent-le (cheap_log q) e (cheap-log-le q l) k)) in
    let scaled : (scale * c + 2 * (x * c)) * whole ≤ (scale * (f + 14) + 2 * (y * c)) * whole = omega (arith, all) in
    le_of_mul-le-mul_right scaled whole_pos

-- ---- what is off, in parts of 2 ^ 32, over plain numbers: s for scale, c for what exponents are apart, e for what one is off, k for the largest factor

-- the parts that squares and exponents come to
part-squared : (c : ℕ) → 17179869184 * (c * c) ≤ scale * scale * squared c
unfolding squared scale
part-squared c =
    let a : ℕ = c / 2147483648 + 1 in
    let few : c ≤ a * 2147483648 = omega (arith, lt-div-mul-add {a = c} {b = 2147483648} (lit< tt)) in
    let room : a * a < a * a / 256 * 256 + 256 = lt-div-mul-add (lit< tt) in
    omega (arith, mul-le-mul few few)

part_off : (e : ℕ) → 8589934592 * e ≤ scale * (e / 524288 + 1)
unfolding scale
part_off e = omega (arith, lt-div-mul-add {a = e} {b = 524288} (lit< tt))

-- little enough is apart where the squares are
small-apart : (c : ℕ) → squared c ≤ 4000000 → 64 * c ≤ scale
unfolding squared scale
small-apart c h =
    let a : ℕ = c / 2147483648 + 1 in
    let few : c ≤ a * 2147483648 = omega (arith, lt-div-mul-add {a = c} {b = 2147483648} (lit< tt)) in
    let room : a * a < a * a / 256 * 256 + 256 = lt-div-mul-add (lit< tt) in
    elim (dec_le 32000 a) [ yes l ↦ absurd (omega (arith, mul-le-mul l l)) | no l ↦ omega arith ]

module _ (s c e k c₀ b₁ b₂ b : ℕ) (first : 17179869184 * (c * c) ≤ s * s * b₁) (second : 8589934592 * e ≤ s * b₂) (largest : 8 * k ≤ 9 * c₀ + 136)
    (wide : 9 * (b₁ + b₂) ≤ 8 * b) (small : b ≤ 4000000) (near : 64 * c ≤ s) where
  largest-times : (b₁ + b₂) * k ≤ b * c₀ + 136000000
  largest-times =
      let few : b₁ + b₂ ≤ 4000000 = omega arith in
      omega (arith, mul-le-mul_left (b₁ + b₂) largest, mul-le-mul_right c₀ wide, few)

  off-below : 8589934592 * (e * k) ≤ s * (b * c₀ + 136000000)
  off-below =
      let more : b₂ * k ≤ b * c₀ + 136000000 = omega (arith, largest-times) in
      omega (arith, mul-le-mul_right k second, mul-le-mul_left s more)

  off-above : 4294967296 * (2 * (c * (14 * s + 2 * (c * k))) + 2 * (s * (e * k))) ≤ s * s * (4294967296 + b * c₀)
  off-above =
      let little : 14 * s * (64 * c) ≤ 14 * s * s = mul-le-mul_left (14 * s) near in
      let all = largest-times in
      parts (mul-le-mul_right k first) (mul-le-mul_left s (mul-le-mul_right k second)) (mul-le-mul_left (s * s) all) little
    where
      parts : 17179869184 * (c * c) * k ≤ s * s * b₁ * k → s * (8589934592 * e * k) ≤ s * (s * b₂ * k) → s * s * ((b₁ + b₂) * k) ≤ s * s * (b * c₀ + 136000000)
          → 14 * s * (64 * c) ≤ 14 * s * s → 4294967296 * (2 * (c * (14 * s + 2 * (c * k))) + 2 * (s * (e * k))) ≤ s * s * (4294967296 + b * c₀)
      parts p q r t = omega arith

-- ---- three days of a line: g, u days later, and v days later still

module _ (most jump g u v r₀ r r₁ : ℕ) (st : Straight most jump u v r₀ r r₁) (top : most ≤ 1000000) (last : g + u + v ≤ 10950) where
  abbrev h : ℕ
  h = u + v

  abbrev day : ℕ
  day = g + u + v

  l₀ : r₀ ≤ 1000000
  l₀ = le_trans st.limit₀ top

  l : r ≤ 1000000
  l = le_trans st.limit top

  l₁ : r₁ ≤ 1000000
  l₁ = le_trans st.limit₁ top

  off-is : log_off jump ≡ 2251799814 + (9700000 + 2252 * (jump * jump))
  unfolding log_off
  off-is = omega arith

  logs-near-under : v * cheap_log r₀ + u * cheap_log r₁ ≤ (u + v) * (cheap_log r + log_off jump)
  logs-near-under =
      let near : v * m r₀ + u * m r₁ ≤ (u + v) * (m r + 1) = omega (arith, st.under) in
      let found = logs-under scale (m r) (m r₀) (m r₁) (cheap_log r) (cheap_log r₀) (cheap_log r₁) u v 2251799814 9700000 (m-pos r) (steep r) (tangent r r₀ l l₀) (tangent r r₁ l l₁) near in
      let wide : 2251799814 + 9700000 ≤ log_off jump = omega (arith, off-is) in
      let all : (u + v) * (cheap_log r + (2251799814 + 9700000)) ≤ (u + v) * (cheap_log r + log_off jump) = mul-le-mul_left (u + v) (omega arith) in
      le_trans found all

  logs-near-over : (u + v) * cheap_log r ≤ v * cheap_log r₀ + u * cheap_log r₁ + (u + v) * log_off jump
  logs-near-over =
      let near : (u + v) * m r ≤ v * m r₀ + u * m r₁ + (u + v) = omega (arith, st.over) in
      let turned : Apart r r₀ jump = record { above = st.first.below; below = st.first.above } in
      rw off-is
      (logs-over scale (m r) (m r₀) (m r₁) (cheap_log r) (cheap_log r₀) (cheap_log r₁) u v 2251799814 (9700000 + 2252 * (jump * jump)) (m-pos r) (steep r) (tangent-over r r₀ jump l l₀ turned) (tangent-over r r₁ jump l l₁ st.second) near)

  logs-far : (p q : ℕ) → p ≤ 1000000 → q ≤ 1000000 → Apart p q jump → Apart (cheap_log p) (cheap_log q) (logs_apart jump)
  logs-far p q lp lq a = record { above = logs-less q p lq lp jump a.above; below = logs-less p q lp lq jump a.below }

  -- ---- exponents

  abbrev x₀ : ℕ
  x₀ = exponent_of r₀ g

  abbrev x : ℕ
  x = exponent_of r (g + u)

  abbrev x₁ : ℕ
  x₁ = exponent_of r₁ (g + u + v)

  abbrev e : ℕ
  e = exponent_off jump h day

  abbrev c : ℕ
  c = exponents_apart most jump h day

  off-room : 1456 + 4 * ((g + u) * log_off jump) + (u + v) * logs_apart jump ≤ 1460 * e
  unfolding exponent_off
  off-room =
      let n : ℕ = 1456 + 4 * (day * log_off jump) + h * logs_apart jump in
      let room : n < n / 1460 * 1460 + 1460 = lt-div-mul-add (lit< tt) in
      omega (arith, mul-le-mul_left v (off-some))
    where
      off-some : 0 ≤ log_off jump
      off-some = omega arith

  above-chord : v * x₀ + u * x₁ ≤ (u + v) * (x + e)
  above-chord =
      exponents-above g u v (cheap_log r) (cheap_log r₀) (cheap_log r₁) x x₀ x₁ (log_off jump) (logs_apart jump) e (cut r₀ g) (cut r (g + u)) (cut r₁ (g + u + v)) off-room
      logs-near-under (logs-far r₀ r₁ l₀ l₁ st.both).below

  below-chord : (u + v) * x ≤ v * x₀ + u * x₁ + (u + v) * e
  below-chord =
      exponents-below g u v (cheap_log r) (cheap_log r₀) (cheap_log r₁) x x₀ x₁ (log_off jump) (logs_apart jump) e (cut r₀ g) (cut r (g + u)) (cut r₁ (g + u + v)) off-room
      logs-near-over (logs-far r₀ r₁ l₀ l₁ st.both).above

  apart-room : (d k : ℕ) → d ≤ day → k ≤ h → 364 + logs_apart jump * d + logs_apart most * k ≤ 365 * c
  unfolding exponents_apart
  apart-room d k ld lk =
      let n : ℕ = 364 + logs_apart jump * day + logs_apart most * h in
      let room : n < n / 365 * 365 + 365 = lt-div-mul-add (lit< tt) in
      omega (arith, mul-le-mul_left (logs_apart jump) ld, mul-le-mul_left (logs_apart most) lk)

  logged : (q : ℕ) → q ≤ most → cheap_log q ≤ logs_apart most
  logged q k = le_trans (log-most q (le_trans k top)) (logs-mono q most k)

  far-first : Apart x₀ x c
  far-first =
      exponents-apart g u (cheap_log r₀) (cheap_log r) x₀ x (logs_apart most) (logs_apart jump) c (cut r₀ g) (cut r (g + u)) (logs-far r₀ r l₀ l st.first) (logged r st.limit)
      (apart-room g u (omega arith) (omega arith))

  far-second : Apart x x₁ c
  far-second =
      exponents-apart (g + u) v (cheap_log r) (cheap_log r₁) x x₁ (logs_apart most) (logs_apart jump) c (cut r (g + u)) (cut r₁ (g + u + v)) (logs-far r r₁ l l₁ st.second) (logged r₁ st.limit₁)
      (apart-room (g + u) v (omega arith) (omega arith))

  far-both : Apart x₀ x₁ c
  far-both =
      let same : g + (u + v) ≡ g + u + v = omega arith in
      let last' : Cut (cheap_log r₁) (g + (u + v)) x₁ = rw same (cut r₁ (g + u + v)) in
      exponents-apart g (u + v) (cheap_log r₀) (cheap_log r₁) x₀ x₁ (logs_apart most) (logs_apart jump) c (cut r₀ g) last' (logs-far r₀ r₁ l₀ l₁ st.both) (logged r₁ st.limit₁)
      (apart-room g (u + v) (omega arith) (omega arith))

  -- ---- factors

  abbrev f₀ : ℕ
  f₀ = cheap_factor r₀ g

  abbrev f : ℕ
  f = cheap_factor r (g + u)

  abbrev f₁ : ℕ
  f₁ = cheap_factor r₁ (g + u + v)

  module _ (small : convexity most jump h day ≤ 4000000) where
    abbrev b : ℕ
    b = convexity most jump h day

    wide : 9 * (squared c + (e / 524288 + 1)) ≤ 8 * b
    unfolding convexity bent
    wide = let n : ℕ = squared c + (e / 524288 + 1) in omega (arith, lt-div-mul-add {a = n} {b = 8} (lit< tt))

    near : 64 * c ≤ scale
    near = small-apart c (omega (arith, wide))

    abbrev k : ℕ
    k = (9 * f₀ + 128) / 8 + 1

    k-most : 8 * k ≤ 9 * f₀ + 136
    k-most = omega (arith, div-mul-le_self (9 * f₀ + 128) 8)

    k-least : 9 * f₀ + 128 ≤ 8 * k
    k-least = omega (arith, lt-div-mul-add {a = 9 * f₀ + 128} {b = 8} (lit< tt))

    f-le : f ≤ k
    f-le = omega (arith, k-least, powers-near scale f x f₀ x₀ c scale-pos (above r (g + u) r₀ g l₀ (omega arith)) far-first.above near)

    f₀-le : f₀ ≤ k
    f₀-le = omega (arith, k-least)

    f₁-le : f₁ ≤ k
    f₁-le = omega (arith, k-least, powers-near scale f₁ x₁ f₀ x₀ c scale-pos (above r₁ (g + u + v) r₀ g l₀ (omega arith)) far-both.above near)

    abbrev p : ℕ
    p = 14 * scale + 2 * (c * k)

    factors-apart : Apart (scale * f₀) (scale * f₁) p
    factors-apart =
        record {
          above = omega (arith, above r₀ g r₁ (g + u + v) l₁ last, mul-le-mul_right f₀ far-both.below, mul-le-mul_left c f₀-le);
          below = omega (arith, above r₁ (g + u + v) r₀ g l₀ (omega arith), mul-le-mul_right f₁ far-both.above, mul-le-mul_left c f₁-le);
        }

    pub chord-below : 4294967296 * ((u + v) * f) ≤ (u + v) * (15 * 4294967296 + b * f₀) + 4294967296 * (v * f₀ + u * f₁)
    chord-below =
        let found = powers-above scale u v f₀ f f₁ x₀ x x₁ c e (above r (g + u) r₀ g l₀ (omega arith)) (above r (g + u) r₁ (g + u + v) l₁ last) above-chord in
        let off = off-below scale c e k f₀ (squared c) (e / 524288 + 1) b (part-squared c) (part_off e) k-most wide small near in
        let more : (u + v) * (e * f) ≤ (u + v) * (e * k) = mul-le-mul_left (u + v) (mul-le-mul_left e f-le) in
        le_of_mul-le-mul_right (forms scale h f (v * f₀ + u * f₁) (e * f) (e * k) (b * f₀) found more (mul-le-mul_left h off)) scale-pos
      where
        forms : (s h f g i k b : ℕ) → s * (h * f) ≤ s * (g + h * 14) + 2 * (h * i) → h * i ≤ h * k → h * (8589934592 * k) ≤ h * (s * (b + 136000000))
            → 4294967296 * (h * f) * s ≤ (h * (15 * 4294967296 + b) + 4294967296 * g) * s
        forms s h f g i k b x y z = omega arith

    pub chord-above : 4294967296 * (v * f₀ + u * f₁) ≤ (u + v) * (15 * 4294967296 + b * f₀) + 4294967296 * ((u + v) * f)
    chord-above =
        let turned : Apart x₁ x c = record { above = far-second.below; below = far-second.above } in
        let found = powers-below scale u v f₀ f f₁ x₀ x x₁ c e p (above r₀ g r (g + u) l (omega arith)) (above r₁ (g + u + v) r (g + u) l (omega arith)) below-chord turned factors-apart in
        let off = off-above scale c e k f₀ (squared c) (e / 524288 + 1) b (part-squared c) (part_off e) k-most wide small near in
        let more : scale * (h * (e * f₀)) ≤ scale * (h * (e * k)) = mul-le-mul_left scale (mul-le-mul_left h (mul-le-mul_left e f₀-le)) in
        le_of_mul-le-mul_right (le_of_mul-le-mul_right (forms scale h f (v * f₀ + u * f₁) (c * p) (e * f₀) (e * k) (b * f₀) found more (mul-le-mul_left h off)) scale-pos) scale-pos
      where
        forms : (s h f g c i k b : ℕ) → s * (s * g) ≤ s * (s * (h * (f + 14))) + 2 * (h * c) + 2 * (s * (h * i)) → s * (h * i) ≤ s * (h * k)
            → h * (4294967296 * (2 * c + 2 * (s * k))) ≤ h * (s * s * (4294967296 + b))
            → 4294967296 * g * s * s ≤ (h * (15 * 4294967296 + b) + 4294967296 * (h * f)) * s * s
        forms s h f g c i k b x y z = omega arith
