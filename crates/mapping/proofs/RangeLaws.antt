-- The rates of two nodes are in their range in every scenario: a quotient moves by no more than its dividend, and a rate brought into its limits by no more
-- than the rate.
use mathlib.Core.Path.{◌≡◌, refl, ◌∙◌}
use mathlib.Core.Bool.{Bool, true, false, cond}
use Prim.Native.Nat.{ℕ, suc, min, ◌+◌, ◌-◌, ◌*◌, ◌/◌, ◌≤◌, ◌<◌}
use native.Mathlib.Nat.{mul-le-mul, mul-le-mul_left, mul-le-mul_right, div-mul-le_self, lt-div-mul-add}
use native.Mathlib.Omega.{arith}
use borrow.Author.Tests.{eqb-true}
use lib.Dec.{eqb, lit<}
use lib.IntN.{ℤ, pos, negsuc, nat_abs, ◌+ℤ◌, ◌-ℤ◌, ◌*ℤ◌, +ℤ_idr}
use lib.Signed.{quot_z}
use Rattle.laws.specs.Distance.{Below, Within}
use Rattle.laws.proofs.Integer.{int, up, down, plus, up_pos, down_pos, up_neg, down-neg, within-abs, below-read}
use Rattle.laws.proofs.Signed.{abs-add, abs-sub, abs-mul, abs-quot}
use Rattle.curve.specs.declared.Node.{Node}
use Rattle.curve.specs.declared.Component.{Component}
use Rattle.curve.specs.declared.Components.{Components}
use Rattle.curve.specs.declared.Scenario.{Scenario}
use Rattle.curve.specs.Limits.{highest_rate, zero_node, ComponentLimits}
use Rattle.curve.specs.Scenarios.{coefficient_count, coefficient, scenario_count, scenario_at}
use Rattle.curve.specs.Stress.{shifted, clamped, stressed}
use Rattle.curve.proofs.Coefficients.{coefficient-none, coefficient-size}
use Rattle.curve.proofs.Scenarios.{first-in, second-in, third-in, scenario-entry}
use Rattle.bucket.specs.Convexity.{Apart}
use Rattle.mapping.specs.Ranges.{swing, moved_apart, width_of, height_of, range_of, Ranges}

-- ---- a scenario's coefficients swing no further

swing-size : (x : Component) (k : ℕ) → k < coefficient_count x → nat_abs (coefficient x k) ≤ swing x
unfolding swing
swing-size x k h = go (eqb x.steps 0) refl
  where
    go : (t : Bool) → eqb x.steps 0 ≡ t → nat_abs (coefficient x k) ≤ cond t 0 x.range
    go true e = rw (coefficient-none x k (eqb-true x.steps 0 e)) (omega arith)
    go false e = coefficient-size x k h

swing-most : (x : Component) → ComponentLimits x → swing x ≤ 10000
unfolding swing
swing-most x h = go (eqb x.steps 0)
  where
    go : (t : Bool) → cond t 0 x.range ≤ 10000
    go true = omega arith
    go false = h.range

-- what the code multiplies fits
pub moved-most : (x : Component) (a b : ℤ) → ComponentLimits x × (nat_abs a ≤ 1000000) × (nat_abs b ≤ 1000000) → swing x * nat_abs (a -ℤ b) ≤ 20000000000
moved-most x a b h =
    mul-le-mul {n₂ = 10000} {m₂ = 2000000} (swing-most x h.0) (omega (arith, abs-sub a b, h.1, h.2))

record Swings (x : Components) (s : Scenario) : Type 0 where
  first : nat_abs s.first ≤ swing x.first
  second : nat_abs s.second ≤ swing x.second
  third : nat_abs s.third ≤ swing x.third

swings : (x : Components) (s : ℕ) → s < scenario_count x → Swings x (scenario_at x s)
swings x s h =
    rw (scenario-entry x s h)
    (record { first = swing-size x.first _ (first-in x s h); second = swing-size x.second _ (second-in x s h); third = swing-size x.third _ (third-in x s h) })

-- ---- products of one coefficient

neg-up : (n : ℕ) → up (negsuc n) ≡ 0
neg-up n = up_neg (pos (suc n)) ∙ down_pos (suc n)

neg-down : (n : ℕ) → down (negsuc n) ≡ suc n
neg-down n = down-neg (pos (suc n)) ∙ up_pos (suc n)

times-up : (k : ℕ) (a : ℤ) → up (pos k *ℤ a) ≡ k * up a
times-up k (pos n) = rw (up_pos (k * n), up_pos n)
times-up k (negsuc n) = rw (up_neg (pos (k * suc n)), down_pos (k * suc n), neg-up n) (omega arith)

times_down : (k : ℕ) (a : ℤ) → down (pos k *ℤ a) ≡ k * down a
times_down k (pos n) = rw (down_pos (k * n), down_pos n) (omega arith)
times_down k (negsuc n) = rw (down-neg (pos (k * suc n)), up_pos (k * suc n), neg-down n)

less-up : (k : ℕ) (a : ℤ) → up (negsuc k *ℤ a) ≡ suc k * down a
less-up k (pos n) = rw (up_neg (pos (suc k * n)), down_pos (suc k * n), down_pos n) (omega arith)
less-up k (negsuc n) = rw (up_pos (suc k * suc n), neg-down n)

less-down : (k : ℕ) (a : ℤ) → down (negsuc k *ℤ a) ≡ suc k * up a
less-down k (pos n) = rw (down-neg (pos (suc k * n)), up_pos (suc k * n), up_pos n)
less-down k (negsuc n) = rw (down_pos (suc k * suc n), neg-up n) (omega arith)

times-within : (x a b : ℤ) (g d : ℕ) → nat_abs x ≤ g → Within a b d → Within (x *ℤ a) (x *ℤ b) (g * d)
times-within (pos k) a b g d h w =
    omega
    (int, times-up k a, times_down k a, times-up k b, times_down k b, mul-le-mul_left k (below-read a b d w.low), mul-le-mul_left k (below-read b a d w.high), mul-le-mul_right d h)
times-within (negsuc k) a b g d h w =
    omega
    (int, less-up k a, less-down k a, less-up k b, less-down k b, mul-le-mul_left (suc k) (below-read a b d w.low), mul-le-mul_left (suc k) (below-read b a d w.high), mul-le-mul_right d h)

-- ---- their sum, a hundredth of it, and the rate

sum-within : (a b c a' b' c' : ℤ) (r s t : ℕ) → Within a a' r → Within b b' s → Within c c' t → Within (a +ℤ b +ℤ c) (a' +ℤ b' +ℤ c') (r + s + t)
sum-within a b c a' b' c' r s t f g h =
    omega (int, f, g, h, plus a b, plus (a +ℤ b) c, plus a' b', plus (a' +ℤ b') c')

hundredth-up : (z : ℤ) → up (quot_z z (pos 100)) ≡ up z / 100
hundredth-up (pos n) = rw (up_pos (n / 100), up_pos n)
hundredth-up (negsuc n) = rw (up_neg (pos (suc n / 100)), down_pos (suc n / 100), neg-up n) refl

hundredth-down : (z : ℤ) → down (quot_z z (pos 100)) ≡ down z / 100
hundredth-down (pos n) = rw (down_pos (n / 100), down_pos n) refl
hundredth-down (negsuc n) = rw (down-neg (pos (suc n / 100)), up_pos (suc n / 100), neg-down n)

hundredths : (n : ℕ) → (n / 100 * 100 ≤ n) × (n < n / 100 * 100 + 100)
hundredths n = (div-mul-le_self n 100, lt-div-mul-add (lit< tt))

hundredth-within : (a b : ℤ) (t : ℕ) → Within a b t → Within (quot_z a (pos 100)) (quot_z b (pos 100)) (t / 100 + 2)
hundredth-within a b t w =
    omega
    (int, w, hundredth-up a, hundredth-down a, hundredth-up b, hundredth-down b, hundredths (up a), hundredths (down a), hundredths (up b), hundredths (down b), hundredths t)

rate-within : (r q : ℕ) (a b : ℤ) (t : ℕ) → Within a b t → Within (pos r +ℤ a) (pos q +ℤ b) ((r - q) + (q - r) + t)
rate-within r q a b t w = omega (int, w, plus (pos r) a, plus (pos q) b, up_pos r, down_pos r, up_pos q, down_pos q)

-- ---- brought into the limits

clamped-up : (z : ℤ) → clamped z ≡ min (up z) highest_rate
clamped-up (pos n) = rw (up_pos n)
clamped-up (negsuc n) = rw (neg-up n) (omega arith)

up_apart : (a b : ℤ) (t : ℕ) → Below a b t → up a ≤ up b + t
up_apart (pos m) (pos n) t w = omega (int, w, up_pos m, down_pos m, up_pos n, down_pos n)
up_apart (pos m) (negsuc n) t w = omega (int, w, up_pos m, down_pos m, neg-up n, neg-down n)
up_apart (negsuc m) b t w = omega (arith, neg-up m)

clamped-apart : (a b : ℤ) (t : ℕ) → Within a b t → Apart (clamped a) (clamped b) (min t highest_rate)
clamped-apart a b t w =
    record { above = omega (arith, clamped-up a, clamped-up b, up_apart a b t w.low); below = omega (arith, clamped-up a, clamped-up b, up_apart b a t w.high) }

up-size : (z : ℤ) → up z ≤ nat_abs z
up-size (pos n) = omega (arith, up_pos n)
up-size (negsuc n) = omega (arith, neg-up n)

hundredth-less : (m n : ℕ) → m ≤ n → m / 100 ≤ n / 100
hundredth-less m n h = omega (arith, hundredths m, hundredths n)

-- ---- of two nodes

module _ (a b : Node) (x : Components) (s : Scenario) (w : Swings x s) where
  abbrev sum_of : Node → ℤ
  sum_of n = s.first *ℤ n.first +ℤ s.second *ℤ n.second +ℤ s.third *ℤ n.third

  distance : (p q : ℤ) → Within p q (nat_abs (p -ℤ q))
  distance p q = (within-abs p q (nat_abs (p -ℤ q))).1 (omega arith)

  sums-within : Within (sum_of a) (sum_of b) (moved_apart a b x)
  unfolding moved_apart
  sums-within =
      sum-within _ _ _ _ _ _ _ _ _
      (times-within s.first a.first b.first _ _ w.first (distance a.first b.first))
      (times-within s.second a.second b.second _ _ w.second (distance a.second b.second))
      (times-within s.third a.third b.third _ _ w.third (distance a.third b.third))

  -- what was found is no more than what `width_of` says
  abbrev found : ℕ
  found = (a.rate - b.rate) + (b.rate - a.rate) + (moved_apart a b x / 100 + 2)

  covered : min found highest_rate ≤ width_of a b x
  unfolding width_of
  covered = omega arith

  rates-apart : Apart (stressed s a).rate (stressed s b).rate (width_of a b x)
  unfolding shifted
  rates-apart =
      let near = clamped-apart _ _ _ (rate-within a.rate b.rate _ _ (moved_apart a b x / 100 + 2) (hundredth-within _ _ _ sums-within)) in
      wider _ _ _ _ covered near
    where
      wider : (p q t w : ℕ) → t ≤ w → Apart p q t → Apart p q w
      wider p q t w l h = record { above = omega (arith, h.above); below = omega (arith, h.below) }

  moved-size : (n : Node) → nat_abs (sum_of n) ≤ moved_apart n zero_node x
  unfolding moved_apart
  moved-size n =
      rw (+ℤ_idr n.first, +ℤ_idr n.second, +ℤ_idr n.third)
      (
      let first : nat_abs (s.first *ℤ n.first) ≤ swing x.first * nat_abs n.first = rw (abs-mul s.first n.first) (mul-le-mul_right (nat_abs n.first) w.first) in
      let second : nat_abs (s.second *ℤ n.second) ≤ swing x.second * nat_abs n.second = rw (abs-mul s.second n.second) (mul-le-mul_right (nat_abs n.second) w.second) in
      let third : nat_abs (s.third *ℤ n.third) ≤ swing x.third * nat_abs n.third = rw (abs-mul s.third n.third) (mul-le-mul_right (nat_abs n.third) w.third) in
      omega (arith, abs-add (s.first *ℤ n.first) (s.second *ℤ n.second), abs-add (s.first *ℤ n.first +ℤ s.second *ℤ n.second) (s.third *ℤ n.third)))

  rate-high : (n : Node) → (stressed s n).rate ≤ height_of n x
  unfolding shifted height_of
  rate-high n =
      let q = quot_z (sum_of n) (pos 100) in
      let less : nat_abs q ≤ moved_apart n zero_node x / 100 = rw (abs-quot (sum_of n) (pos 100)) (hundredth-less _ _ (moved-size n)) in
      let high : clamped (pos n.rate +ℤ q) ≤ min (n.rate + moved_apart n zero_node x / 100) highest_rate =
      omega (arith, clamped-up (pos n.rate +ℤ q), up-size (pos n.rate +ℤ q), abs-add (pos n.rate) q, less) in
      high

width-limit : (a b : Node) (x : Components) → width_of a b x ≤ 1000000
unfolding width_of
width-limit a b x = omega arith

height-limit : (n : Node) (x : Components) → height_of n x ≤ 1000000
unfolding height_of
height-limit n x = omega arith

pub ranges : (a b : Node) (x : Components) → Ranges a b x (range_of a b x)
unfolding range_of
ranges a b x =
    record {
      limits = record { width = width-limit a b x; highest = omega (arith, height-limit a x, height-limit b x) };
      each =
          λ s h.
          let w = swings x s h in
          let ha = rate-high a b x (scenario_at x s) w a in
          let hb = rate-high a b x (scenario_at x s) w b in
          record { apart = rates-apart a b x (scenario_at x s) w; first = omega (arith, ha); second = omega (arith, hb) };
    }
