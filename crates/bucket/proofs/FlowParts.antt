-- A flow's value and that of its parts, mapped to the ends of its bucket, are apart by no more than the value of its excess, and little more.
use mathlib.Core.Path.{◌≡◌, ap}
use Prim.Native.Nat.{ℕ, ◌+◌, ◌-◌, ◌*◌, ◌/◌, ◌≤◌, ◌<◌}
use native.Mathlib.Nat.{mul-le-mul, mul-le-mul_left, mul-le-mul_right, le_of_mul-le-mul_right, div-mul-le_self, lt-div-mul-add, div-le_of_le-mul, le-div_iff_mul-le}
use native.Mathlib.Omega.{arith}
use lib.Dec.{lit<}
use Rattle.laws.proofs.Powers.{sub-mul}
use Rattle.decimal.specs.Product.{unit}
use Rattle.decimal.specs.HalfUp.{discounted}
use Rattle.decimal.proofs.Products.{unit-pos}
use Rattle.decimal.proofs.HalfUp.{discounted-low, discounted-high}
use Rattle.discount.specs.Discount.{factor, present_value}
use Rattle.cheap.specs.Cheap.{whole, cheap_factor}
use Rattle.cheap.proofs.Powers.{whole_pos, whole_is}
use Rattle.cheap.proofs.Bound.{cheap-near, cheap-le}
use Rattle.netting.specs.Netting.{distance_up, moved, deviation, cheap_on}
use Rattle.netting.proofs.NettedValue.{distance-up, not-over, not-under}
use Rattle.netting.proofs.Sizes.{distance-size}
use Rattle.bucket.specs.declared.buckets.Bucket.{Bucket}
use Rattle.bucket.specs.Mapped.{NearLine, BucketLimits, last_part, excess, allowance}

-- ---- a value p of an amount a at a cheap factor c, in parts of z

pub record NearValue (z a c p : ℕ) : Type 0 where
  pub over : p * (z * 2) ≤ a * c * 2 + a * 786 + z
  pub under : a * c * 2 ≤ p * (z * 2) + a * 786 + z

near-value : (a r days : ℕ) → r ≤ 1000000 → days ≤ 10950 → NearValue whole a (cheap_factor r days) (present_value a r days)
unfolding present_value
near-value a r days l k =
    let f : ℕ = factor r days in
    let c : ℕ = cheap_factor r days in
    let d : ℕ = distance_up days in
    let close = cheap-near r days l k in
    let few = mul-le-mul_left a (distance-size days k) in
    record {
      over = omega (arith, few, not-over a f unit c whole d (discounted a f) unit-pos (discounted-low a f) (omega (arith, close.above, distance-up days)));
      under = omega (arith, few, not-under a f unit c whole d (discounted a f) unit-pos (discounted-high a f) (omega (arith, close.below, distance-up days)));
    }

-- ---- the parts of an amount a: a₁ is a * u / (u + v), and a₀ the rest

module _ (z a a₀ a₁ u v c₀ c₁ : ℕ) (sum : a₀ + a₁ ≡ a) (low : a₁ * (u + v) ≤ a * u) (high : a * u < a₁ * (u + v) + (u + v)) (l₀ : c₀ ≤ z) (l₁ : c₁ ≤ z) where
  -- what is lost of the second part
  abbrev lost : ℕ
  lost = a * u - a₁ * (u + v)

  lost-is : a * u ≡ a₁ * (u + v) + lost
  lost-is = omega arith

  all-is : a * (u + v) ≡ a₀ * (u + v) + a₁ * (u + v)
  all-is = rw (← sum) (omega arith)

  near-is : a₀ * (u + v) ≡ a * v + lost
  near-is = omega (arith, all-is, lost-is)

  first-times : a₀ * (u + v) * c₀ ≡ (a * v + lost) * c₀
  first-times = ap (λ (n : ℕ). n * c₀) near-is

  second-times : a * u * c₁ ≡ (a₁ * (u + v) + lost) * c₁
  second-times = ap (λ (n : ℕ). n * c₁) lost-is

  lost-less : (c : ℕ) → c ≤ z → lost * c ≤ (u + v) * z
  lost-less c l = let few : lost ≤ u + v = omega arith in mul-le-mul few l

  parts-over : (a₀ * c₀ + a₁ * c₁) * (u + v) ≤ a * (v * c₀ + u * c₁) + (u + v) * z
  parts-over = go lost first-times second-times (lost-less c₀ l₀)
    where
      go : (k : ℕ) → a₀ * (u + v) * c₀ ≡ (a * v + k) * c₀ → a * u * c₁ ≡ (a₁ * (u + v) + k) * c₁ → k * c₀ ≤ (u + v) * z
          → (a₀ * c₀ + a₁ * c₁) * (u + v) ≤ a * (v * c₀ + u * c₁) + (u + v) * z
      go k f s l = omega arith

  parts-under : a * (v * c₀ + u * c₁) ≤ (a₀ * c₀ + a₁ * c₁) * (u + v) + (u + v) * z
  parts-under = go lost first-times second-times (lost-less c₁ l₁)
    where
      go : (k : ℕ) → a₀ * (u + v) * c₀ ≡ (a * v + k) * c₀ → a * u * c₁ ≡ (a₁ * (u + v) + k) * c₁ → k * c₁ ≤ (u + v) * z
          → a * (v * c₀ + u * c₁) ≤ (a₀ * c₀ + a₁ * c₁) * (u + v) + (u + v) * z
      go k f s l = omega arith

-- ---- at the chord: s is what the parts are worth, h the days of the bucket, w what the amount at both ends' factors comes to, times h

module _ (z a h c s w c₀ b m : ℕ) (some : 0 < h) (risk : a * b ≤ 4294967296 * m) where
  risk-times : a * b * c₀ ≤ 4294967296 * m * c₀
  risk-times = mul-le-mul_right c₀ risk

  chord-over : 4294967296 * w ≤ h * (15 * 4294967296 + b * c₀) + 4294967296 * (h * c) → s * h ≤ a * w + h * z → s ≤ a * c + a * 15 + m * c₀ + z
  chord-over k l =
      let first : 4294967296 * (a * w) ≤ h * (64424509440 * a) + h * (a * b * c₀) + 4294967296 * (a * h * c) = omega (arith, mul-le-mul_left a k) in
      let scaled : s * (h * 4294967296) ≤ (a * c + a * 15 + m * c₀ + z) * (h * 4294967296) = omega (arith, first, mul-le-mul_left h risk-times, l) in
      le_of_mul-le-mul_right scaled (omega arith)

  chord-under : 4294967296 * (h * c) ≤ h * (15 * 4294967296 + b * c₀) + 4294967296 * w → a * w ≤ s * h + h * z → a * c ≤ s + a * 15 + m * c₀ + z
  chord-under k l =
      let first : 4294967296 * (a * h * c) ≤ h * (64424509440 * a) + h * (a * b * c₀) + 4294967296 * (a * w) = omega (arith, mul-le-mul_left a k) in
      let scaled : a * c * (h * 4294967296) ≤ (s + a * 15 + m * c₀ + z) * (h * 4294967296) = omega (arith, first, mul-le-mul_left h risk-times, l) in
      le_of_mul-le-mul_right scaled (omega arith)

-- ---- in values

-- what the roundings of a flow's own value and of its parts come to
unfoldable pub chord_room : ℕ → ℕ
chord_room a = (1603 * a + 786 + 6 * whole) / (2 * whole)

room-is : (a n : ℕ) → n * (2 * whole) ≤ 1603 * a + 786 + 6 * whole → n ≤ chord_room a
unfolding chord_room
room-is a n h = (le-div_iff_mul-le {k = 2 * whole} {x = n} {y = 1603 * a + 786 + 6 * whole} (omega (arith, whole_pos))).1 h

module _ (z a a₀ a₁ m c₀ c₁ c p₀ p₁ p q : ℕ) (sum : a₀ + a₁ ≡ a) (few : 786 * m ≤ a + 786)
    (v₀ : NearValue z a₀ c₀ p₀) (v₁ : NearValue z a₁ c₁ p₁) (v : NearValue z a c p) (w : NearValue z m c₀ q) where
  values-over : a₀ * c₀ + a₁ * c₁ ≤ a * c + a * 15 + m * c₀ + z → (p₀ + p₁) * (2 * z) ≤ (p + q) * (2 * z) + (1603 * a + 786 + 6 * z)
  values-over h = omega (arith, v₀.over, v₁.over, v.under, w.under)

  values-under : a * c ≤ a₀ * c₀ + a₁ * c₁ + a * 15 + m * c₀ + z → p * (2 * z) ≤ (p₀ + p₁ + q) * (2 * z) + (1603 * a + 786 + 6 * z)
  values-under h = omega (arith, v₀.under, v₁.under, v.over, w.under)

apart : (a n m : ℕ) → n * (2 * whole) ≤ m * (2 * whole) + (1603 * a + 786 + 6 * whole) → n ≤ m + chord_room a
apart a n m h = omega (arith, room-is a (n - m) (go n m (1603 * a + 786 + 6 * whole) (2 * whole) h))
  where
    go : (n m r z : ℕ) → n * z ≤ m * z + r → (n - m) * z ≤ r
    go n m r z h = omega (arith, sub-mul n m z)

allowed : (a n : ℕ) → n * (2 * 2147483648) ≤ 3176 * a + 1572 + 18 * 2147483648 → n ≤ allowance a
unfolding allowance
allowed a n h = omega (arith, lt-div-mul-add {a = a} {b = 1000000} (lit< tt))

-- ---- a flow of an amount a on a day, in its bucket

module _ (rate : ℕ → ℕ) (rated : (d : ℕ) → rate d ≤ 1000000) (a day : ℕ) (on : day ≤ 10950) (k : Bucket) (lim : BucketLimits k) (ch : NearLine (cheap_on rate) day k) where
  abbrev h : ℕ
  h = k.gone + k.left

  abbrev a₁ : ℕ
  a₁ = last_part k a

  abbrev a₀ : ℕ
  a₀ = a - a₁

  abbrev m : ℕ
  m = excess k a

  abbrev c₀ : ℕ
  c₀ = cheap_on rate k.first

  abbrev c₁ : ℕ
  c₁ = cheap_on rate k.last

  abbrev c : ℕ
  c = cheap_on rate day

  abbrev p₀ : ℕ
  p₀ = present_value a₀ (rate k.first) k.first

  abbrev p₁ : ℕ
  p₁ = present_value a₁ (rate k.last) k.last

  abbrev p : ℕ
  p = present_value a (rate day) day

  abbrev q : ℕ
  q = present_value m (rate k.first) k.first

  low : a₁ * h ≤ a * k.gone
  unfolding last_part
  low = div-mul-le_self (a * k.gone) h

  high : a * k.gone < a₁ * h + h
  unfolding last_part
  high = lt-div-mul-add lim.some

  pub last-le : a₁ ≤ a
  unfolding last_part
  last-le = div-le_of_le-mul h (omega (arith, mul-le-mul_left a (less k.left)))
    where
      less : (v : ℕ) → k.gone ≤ k.gone + v
      less v = omega arith

  sum : a₀ + a₁ ≡ a
  sum = omega (arith, last-le)

  risk : a * k.error ≤ 4294967296 * m
  unfolding excess
  risk = omega (arith, lt-div-mul-add {a = a * k.error} {b = 4294967296} (lit< tt))

  pub few-excess : 786 * m ≤ a + 786
  unfolding excess
  few-excess = omega (arith, div-mul-le_self (a * k.error) 4294967296, mul-le-mul_left a lim.error)

  worth-over : a₀ * c₀ + a₁ * c₁ ≤ a * c + a * 15 + m * c₀ + whole
  worth-over =
      chord-over whole a h c (a₀ * c₀ + a₁ * c₁) (k.left * c₀ + k.gone * c₁) c₀ k.error m lim.some risk ch.above
      (parts-over whole a a₀ a₁ k.gone k.left c₀ c₁ sum low high (cheap-le _ _) (cheap-le _ _))

  worth-under : a * c ≤ a₀ * c₀ + a₁ * c₁ + a * 15 + m * c₀ + whole
  worth-under =
      chord-under whole a h c (a₀ * c₀ + a₁ * c₁) (k.left * c₀ + k.gone * c₁) c₀ k.error m lim.some risk ch.below
      (parts-under whole a a₀ a₁ k.gone k.left c₀ c₁ sum low high (cheap-le _ _) (cheap-le _ _))

  pub flow-over : p₀ + p₁ ≤ p + q + chord_room a
  flow-over =
      apart a (p₀ + p₁) (p + q)
      (values-over whole a a₀ a₁ m c₀ c₁ c p₀ p₁ p q sum few-excess (near-value a₀ _ _ (rated _) lim.first) (near-value a₁ _ _ (rated _) lim.last) (near-value a _ _ (rated _) on) (near-value m _ _ (rated _) lim.first) worth-over)

  pub flow-under : p ≤ p₀ + p₁ + q + chord_room a
  flow-under =
      apart a p (p₀ + p₁ + q)
      (values-under whole a a₀ a₁ m c₀ c₁ c p₀ p₁ p q sum few-excess (near-value a₀ _ _ (rated _) lim.first) (near-value a₁ _ _ (rated _) lim.last) (near-value a _ _ (rated _) on) (near-value m _ _ (rated _) lim.first) worth-under)

  -- the deviations of the flow, of its parts and of its excess are in the allowance too
  deviation-scaled : (x days : ℕ) → days ≤ 10950 → deviation x days * (2 * whole) ≤ 786 * x + 3 * whole
  unfolding deviation moved
  deviation-scaled x days l = omega (arith, div-mul-le_self (2 * x * distance_up days + 3 * whole) (2 * whole), mul-le-mul_left x (distance-size days l))

  room_most : chord_room a * (2 * whole) ≤ 1603 * a + 786 + 6 * whole
  unfolding chord_room
  room_most = div-mul-le_self (1603 * a + 786 + 6 * whole) (2 * whole)

  abbrev all_room : ℕ
  all_room = chord_room a + deviation a day + deviation a₀ k.first + deviation a₁ k.last + deviation m k.first

  pub all-allowed : all_room ≤ allowance a
  all-allowed = go all_room found
    where
      found : all_room * (2 * whole) ≤ 3176 * a + 1572 + 18 * whole
      found = omega (arith, room_most, deviation-scaled a day on, deviation-scaled a₀ k.first lim.first, deviation-scaled a₁ k.last lim.last, deviation-scaled m k.first lim.first, few-excess, sum)

      go : (n : ℕ) → n * (2 * whole) ≤ 3176 * a + 1572 + 18 * whole → n ≤ allowance a
      go n l = allowed a n (rw whole_is at l)
