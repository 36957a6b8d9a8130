-- The factor of a rate and a day: its bounds, and its distance from the root of (million / (million + rate)) ^ days.
use mathlib.Core.Path.{◌≡◌, ap, ◌∙◌}
use Prim.Native.Nat.{ℕ, suc, ◌+◌, ◌-◌, ◌*◌, ◌/◌, ◌%◌, ◌^◌, ◌≤◌}
use native.Mathlib.Nat.{le_refl, le_trans, mul-le-mul_left, mul-le-mul_right, pow-le-pow_left, div-add-mod', zero-mul, zero-add, add-zero, sub-zero}
use native.Mathlib.Omega.{arith}
use Rattle.laws.proofs.Powers.{sub-mul}
use Rattle.decimal.specs.Product.{unit}
use Rattle.decimal.proofs.Products.{unit-pos}
use Rattle.discount.specs.Discount.{million, year, compound, power, yearly, root, daily, factor, products}
use Rattle.discount.proofs.Compounding.{compound-le, compound-mono, compound-grows, power_le, power-mono, power-one}
use Rattle.discount.proofs.Steps.{compound-low, compound-high}
use Rattle.discount.proofs.Years.{year-low, year-high}
use Rattle.discount.proofs.Roots.{yearly-low, yearly-high, yearly-le, yearly-falls, root-le, root-one, root-mono}
use Rattle.discount.proofs.RootBounds.{DailyOver, daily-over, daily-under}

-- ---- the factor of n years and k days, against the root of (million / (million + r)) ^ days. What the k days lose is discounted over the n years:
-- with t for 2 k of that, it is at most t above, and at most t + 2 n under

days-le : (r k : ℕ) → power (daily r) k ≤ unit
unfolding power
days-le r k = power_le (daily r) k (root-le (yearly r))

module _ (r n k t : ℕ) (small : 2 * k * million ^ n ≤ t * (million + r) ^ n) where
  split-high : r ≤ million
      → (compound (power (daily r) k) (yearly r) n - t) ^ year * (million + r) ^ (n * year + k) ≤ unit ^ year * million ^ (n * year + k)
  unfolding power
  split-high h =
      let q : ℕ = daily r in
      let p : ℕ = compound unit q k in
      let f : ℕ = compound p (yearly r) n in
      let years : f * (million + r) ^ n ≤ p * million ^ n =
      simp (zero-mul, zero-add, add-zero, sub-zero) at (compound-high (yearly r) million (million + r) 0 (omega (arith, yearly-low r)) (omega arith) p 0 n (days-le r k) (yearly-le r)) in
      let near : q * unit ≤ (q - 2 + 2) * unit = mul-le-mul_right unit (omega arith) in
      let rest : (p - 2 * k) * unit ^ k ≤ unit * (q - 2) ^ k =
      simp (zero-add, sub-zero) at (compound-high q (q - 2) unit 2 (omega arith) (omega (arith, root-le (yearly r))) unit 0 k (le_refl unit) (root-le (yearly r))) in
      let less : (f - t) * (million + r) ^ n ≤ (p - 2 * k) * million ^ n = cut f p ((million + r) ^ n) (million ^ n) years small in
      let both : (f - t) * ((million + r) ^ n * unit ^ k) ≤ unit * ((q - 2) ^ k * million ^ n) =
      omega (arith, mul-le-mul_right (unit ^ k) less, mul-le-mul_right (million ^ n) rest) in
      year-high year n k unit (million + r) million (q - 2) unit-pos (f - t) both (daily-under r h)
    where
      cut : (f p x y : ℕ) → f * x ≤ p * y → 2 * k * y ≤ t * x → (f - t) * x ≤ (p - 2 * k) * y
      cut f p x y h s = simp sub-mul (omega arith)

  split-low : unit ^ year * million ^ (n * year + k) ≤ (compound (power (daily r) k) (yearly r) n + (t + 2 * n)) ^ year * (million + r) ^ (n * year + k)
  unfolding power
  split-low =
      let q : ℕ = daily r in
      let p : ℕ = compound unit q k in
      let f : ℕ = compound p (yearly r) n in
      let o : DailyOver r = daily-over r in
      let years : p * million ^ n ≤ (f + 2 * n) * (million + r) ^ n =
      simp (zero-add, add-zero) at (compound-low (yearly r) million (million + r) (yearly-high r) (omega arith) p 0 n (days-le r k) (yearly-le r)) in
      let near : unit * o.w ≤ suc q * unit = omega (arith, mul-le-mul_right unit o.next) in
      let rest : unit * o.w ^ k ≤ (p + 2 * k) * unit ^ k =
      simp (zero-add, add-zero) at (compound-low q o.w unit near o.proper unit 0 k (le_refl unit) (root-le (yearly r))) in
      let more : (p + 2 * k) * million ^ n ≤ (f + (t + 2 * n)) * (million + r) ^ n = omega (arith, years, small) in
      let both : unit * (o.w ^ k * million ^ n) ≤ (f + (t + 2 * n)) * ((million + r) ^ n * unit ^ k) =
      omega (arith, mul-le-mul_right (unit ^ k) more, mul-le-mul_right (million ^ n) rest) in
      year-low year n k unit (million + r) million o.w unit-pos (f + (t + 2 * n)) both o.past

pub factor-le : (r days : ℕ) → factor r days ≤ unit
unfolding factor
factor-le r days = le_trans (compound-le _ (yearly r) (days / year) (yearly-le r)) (days-le r (days % year))

-- t is as much as what the days beyond whole years may lose, discounted over these
abbrev pub Covers : ℕ → ℕ → ℕ → Type 0
Covers r days t = 2 * (days % year) * million ^ (days / year) ≤ t * (million + r) ^ (days / year)

module _ (r days : ℕ) where
  module _ (t : ℕ) (small : Covers r days t) where
    pub factor-above : r ≤ million → (factor r days - t) ^ year * (million + r) ^ days ≤ unit ^ year * million ^ days
    unfolding factor
    factor-above h = rw div-add-mod' at (split-high r (days / year) (days % year) t small h)

    pub factor-below : unit ^ year * million ^ days ≤ (factor r days + (t + 2 * (days / year))) ^ year * (million + r) ^ days
    unfolding factor
    factor-below = rw div-add-mod' at (split-low r (days / year) (days % year) t small)

  -- not discounted
  pub covers-all : Covers r days (2 * (days % year))
  covers-all = mul-le-mul_left (2 * (days % year)) (pow-le-pow_left (omega arith) (days / year))

  pub factor-high : r ≤ million → (factor r days - (2 * products days)) ^ year * (million + r) ^ days ≤ unit ^ year * million ^ days
  unfolding products
  factor-high h =
      let less : factor r days - 2 * (days % year + days / year) ≤ factor r days - 2 * (days % year) = omega arith in
      le_trans (mul-le-mul_right ((million + r) ^ days) (pow-le-pow_left less year)) (factor-above (2 * (days % year)) covers-all h)

  pub factor-low : unit ^ year * million ^ days ≤ (factor r days + (2 * products days)) ^ year * (million + r) ^ days
  unfolding products
  factor-low =
      let same : 2 * (days % year) + 2 * (days / year) ≡ 2 * (days % year + days / year) = omega arith in
      rw same at (factor-below (2 * (days % year)) covers-all)

-- ---- factors do not rise where the rate rises

pub factor-falls : {r s : ℕ} (days : ℕ) → r ≤ s → factor s days ≤ factor r days
unfolding factor
factor-falls {r} {s} days h =
    le_trans
    (compound-grows (yearly s) (days / year) (power-mono (days % year) (root-mono (yearly-falls h))))
    (compound-mono (power (daily r) (days % year)) (days / year) (yearly-falls h))

-- ---- where the year's factor is one, so is every factor

pub factor-one : (r days : ℕ) → yearly r ≡ unit → factor r days ≡ unit
unfolding factor power
factor-one r days e =
    ap (λ (y : ℕ). compound (power (root y) (days % year)) y (days / year)) e
    ∙ ap (λ (q : ℕ). compound (power q (days % year)) unit (days / year)) root-one
    ∙ ap (λ (x : ℕ). compound x unit (days / year)) (power-one (days % year))
    ∙ power-one (days / year)

-- ---- a factor from its parts: the power of the day's factor, and the years after it

pub factor-is : (rate days : ℕ) {y p f : ℕ} → y ≡ yearly rate → p ≡ power (root y) (days % 365) → f ≡ compound p y (days / 365) → f ≡ factor rate days
unfolding year factor
factor-is rate days {y} e g h =
    h
    ∙ ap (λ (x : ℕ). compound x y (days / 365)) g
    ∙ ap (λ (x : ℕ). compound (power (root x) (days % 365)) x (days / 365)) e

-- what a factor is proved by
pub ruleset factors = (factor-one, factor-is)
