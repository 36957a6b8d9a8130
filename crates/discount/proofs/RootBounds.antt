-- The day's factor against the root that it stands for: (daily - 2) ^ 365 is at most the year's, and (daily + 1) ^ 365 at least.
use mathlib.Core.Path.{◌≡◌, refl}
use Prim.Native.Nat.{ℕ, zero, suc, ◌+◌, ◌-◌, ◌*◌, ◌^◌, ◌≤◌, ◌<◌}
use native.Mathlib.Nat.{le_refl, le_trans, le_of_eq, mul-le-mul_left, mul-le-mul_right, le_of_mul-le-mul_right, zero-mul, zero-add, sub-zero, lt_of_not-le, lt_irrefl, add-zero, add-suc, pow-zero, pow-suc, pow-le-pow_left}
use native.Mathlib.Decide.{dec_le}
use native.Mathlib.Omega.{arith}
use lib.Dec.{lit≤}
use Rattle.decimal.specs.Product.{unit, product}
use Rattle.decimal.proofs.Products.{unit-pos, product_high}
use Rattle.discount.specs.Discount.{million, year, compound, power, yearly, daily}
use Rattle.discount.proofs.Steps.{compound-high}
use Rattle.discount.proofs.Roots.{yearly-low, yearly-high, yearly-half, root-holds, root_ge}

-- ---- the next number's power is past the year's factor, so its root is past the year's: a factor at most one more than `daily`, and at most unit

pub record DailyOver (r : ℕ) : Type 0 where
  pub w : ℕ
  pub next : w ≤ suc (daily r)
  pub proper : w ≤ unit
  pub past : unit ^ year * million ≤ w ^ year * (million + r)

daily-over-power : (r x : ℕ) → x ≤ unit → yearly r < power x year → unit ^ year * million ≤ x ^ year * (million + r)
unfolding power
daily-over-power r x l h =
    let above : compound unit x year * unit ^ year ≤ unit * x ^ year = simp (zero-mul, zero-add, sub-zero) at (compound-high x x unit 0 (omega arith) l unit 0 year (le_refl unit) l) in
    let scaled : unit ^ year * million * unit ≤ x ^ year * (million + r) * unit =
    omega (arith, mul-le-mul_right (unit ^ year) (yearly-high r), mul-le-mul_right (unit ^ year * (million + r)) h, mul-le-mul_right (million + r) above) in
    le_of_mul-le-mul_right scaled unit-pos

pub daily-over : (r : ℕ) → DailyOver r
daily-over r = go (dec_le (suc (daily r)) unit)
  where
    go : Dec (suc (daily r) ≤ unit) → DailyOver r
    go (yes l) =
        let past : yearly r < power (suc (daily r)) year = lt_of_not-le (λ h. lt_irrefl (daily r) (root_ge (yearly r) (suc (daily r)) l h)) in
        record { w = suc (daily r); next = le_refl _; proper = l; past = daily-over-power r (suc (daily r)) l past }
    go (no n) = record { w = unit; next = omega arith; proper = le_refl unit; past = mul-le-mul_left (unit ^ year) (omega arith) }

-- ---- two less: the power of `daily` keeps up with that of `daily - 2`, as long as the latter is at least a half

module _ (x q : ℕ) (less : x + 2 ≤ q) where
  keeps-up : (m j : ℕ) → ((i : ℕ) → i ≤ m → unit ^ i ≤ 2 * x ^ i) → j ≤ suc m → unit * x ^ j ≤ compound unit q j * unit ^ j
  unfolding compound
  keeps-up m zero half l = simp pow-zero (le_refl _)
  keeps-up m (suc j) half l =
      let p : ℕ = compound unit q j in
      let ih : unit * x ^ j ≤ p * unit ^ j = keeps-up m j half (omega arith) in
      simp pow-suc
      (omega
      (arith, mul-le-mul_right (unit ^ j) (product_high p q), mul-le-mul_right (x + 2) ih, mul-le-mul_left (p * unit ^ j) less, mul-le-mul_left unit (half j (omega arith))))

-- if a power is at least a half, so are those before it
half_down : (x j d : ℕ) → x ≤ unit → unit ^ (j + d) ≤ 2 * x ^ (j + d) → unit ^ j ≤ 2 * x ^ j
half_down x j zero l h = simp add-zero at h
half_down x j (suc d) l h = half_down x j d l (le_of_mul-le-mul_right scaled unit-pos)
  where
    scaled : unit ^ (j + d) * unit ≤ 2 * x ^ (j + d) * unit
    scaled = omega (arith, simp (add-suc, pow-suc) at h, mul-le-mul_left (x ^ (j + d)) l)

-- The least `daily`, at the rate million, is c = 998102768652: the two numerals below are computed, each by GMP.
least-power : power 998102768652 year ≤ 500000000000
unfolding power compound product unit year
least-power = lit≤ tt

least-le : 998102768652 ≤ unit
unfolding unit
least-le = lit≤ tt

least-half : unit ^ 364 ≤ 2 * 998102768650 ^ 364
unfolding unit
least-half = lit≤ tt

year-is : year ≡ suc 364
unfolding year
year-is = refl

pub daily-under : (r : ℕ) → r ≤ million → (daily r - 2) ^ year * (million + r) ≤ unit ^ year * million
unfolding power
daily-under r h =
    let q : ℕ = daily r in
    let large : 998102768652 ≤ q = root_ge (yearly r) 998102768652 least-le (le_trans least-power (yearly-half r h)) in
    let kept : unit * (q - 2) ^ year ≤ compound unit q year * unit ^ year = keeps-up (q - 2) q (omega arith) 364 year (half (q - 2) (omega arith)) (le_of_eq year-is) in
    let scaled : (q - 2) ^ year * (million + r) * unit ≤ unit ^ year * million * unit =
    omega
    (arith, mul-le-mul_right (million + r) kept, mul-le-mul_right (unit ^ year * (million + r)) (root-holds (yearly r)), mul-le-mul_right (unit ^ year) (yearly-low r)) in
    le_of_mul-le-mul_right scaled unit-pos
  where
    half : (x : ℕ) → 998102768650 ≤ x → (i : ℕ) → i ≤ 364 → unit ^ i ≤ 2 * x ^ i
    half x l i k =
        let sum : i + (364 - i) ≡ 364 = omega arith in
        omega (arith, half_down 998102768650 i (364 - i) (omega (arith, least-le)) (rw sum least-half), pow-le-pow_left l i)
