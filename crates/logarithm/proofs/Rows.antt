-- The rows of the tables: the first, each after the one before it, and what they are at most.
use mathlib.Core.Path.{◌≡◌, refl}
use Prim.Native.Nat.{ℕ, zero, suc, ◌+◌, ◌-◌, ◌*◌, ◌/◌, ◌≤◌, ◌<◌, zero-le}
use native.Mathlib.Nat.{zero-add, le_refl, le_trans, mul-le-mul, div-le_of_le-mul, div-lt_iff_lt-mul}
use native.Mathlib.Numerals.{add-one}
use native.Mathlib.Omega.{arith}
use lib.Dec.{lit<, lit≤}
use Rattle.discount.specs.Discount.{million}
use Rattle.logarithm.specs.Logarithms.{scale, fine_whole, power_whole, first_term, third_term, step, log_of, log_slope, chain, power_row, short_row, middle_base, upper_base}
use Rattle.logarithm.proofs.Steps.{step-le}

pub fine-is : fine_whole ≡ 4398046511104
unfolding fine_whole
fine-is = refl

pub fine-pos : 0 < fine_whole
unfolding fine_whole
fine-pos = lit< tt

pub power-is : power_whole ≡ 1152921504606846976
unfolding power_whole
power-is = refl

pub power_pos : 0 < power_whole
unfolding power_whole
power_pos = lit< tt

-- ---- the powers of a base

pub middle-le : middle_base ≤ power_whole
unfolding middle_base power_whole
middle-le = lit≤ tt

pub upper-le : upper_base ≤ power_whole
unfolding upper_base power_whole
upper-le = lit≤ tt

module _ (b : ℕ) where
  pub chain-none : chain b 0 ≡ power_whole
  unfolding chain
  chain-none = refl

  pub chain_more : (j : ℕ) → chain b (j + 1) ≡ chain b j * b / power_whole
  unfolding chain
  chain_more j = rw add-one refl

  pub power-row-is : (j : ℕ) → power_row b j ≡ chain b j / 262144
  unfolding power_row
  power-row-is j = refl

  pub short-row-is : (j : ℕ) → short_row b j ≡ chain b j / 536870912
  unfolding short_row
  short-row-is j = refl

  module _ (l : b ≤ power_whole) where
    pub chain-le : (j : ℕ) → chain b j ≤ power_whole
    unfolding chain
    chain-le zero = le_refl power_whole
    chain-le (suc j) = div-le_of_le-mul power_whole (mul-le-mul (chain-le j) l)

    pub power-row-le : (j : ℕ) → power_row b j ≤ fine_whole
    unfolding power_row
    power-row-le j = div-le_of_le-mul 262144 (omega (arith, chain-le j, power-is, fine-is))

    pub short-row-le : (j : ℕ) → short_row b j ≤ 2147483648
    unfolding short_row
    short-row-le j = div-le_of_le-mul 536870912 (omega (arith, chain-le j, power-is))

-- ---- the logarithms

million-is : million ≡ 1000000
unfolding million
million-is = refl

pub log-none : log_of 0 ≡ 0
unfolding log_of
log-none = refl

pub log-more : (i : ℕ) → log_of (i + 1) ≡ log_of i + step (1000000 + 2048 * i) 2048
unfolding log_of million
log-more i = rw add-one refl

pub log-le : (i : ℕ) → log_of i ≤ i * 4606970089635
unfolding log_of
log-le zero = zero-le
log-le (suc i) = omega (arith, log-le i, step-le (million + 2048 * i) 2048 (omega (arith, million-is)) (lit≤ tt))

log-rises : (n i : ℕ) → log_of i ≤ log_of (n + i)
log-rises zero i = simp zero-add (le_refl _)
log-rises (suc n) i =
    let same : suc n + i ≡ n + i + 1 = omega arith in
    rw same (omega (arith, log-rises n i, log-more (n + i)))

-- the row of the largest rate, computed
log-last : log_of 488 ≤ 1560180080285253
unfolding log_of step first_term third_term scale million
log-last = lit≤ tt

module _ (r : ℕ) (l : r ≤ 1000000) where
  pub row-le : r / 2048 ≤ 488
  row-le = omega arith

  pub log-row-le : log_of (r / 2048) ≤ 1560180080285253
  log-row-le =
      let i : ℕ = r / 2048 in
      let same : (488 - i) + i ≡ 488 = omega (arith, row-le) in
      le_trans (rw same at (log-rises (488 - i) i)) log-last

  -- with as much as a step adds at most
  pub log-sum-le : (more : ℕ) → more ≤ 4609434217211 → log_of (r / 2048) + more ≤ 1564789514502464
  log-sum-le more h = omega (arith, log-row-le)

-- the rows of the table of upper digits are enough for such an exponent
pub exponent-le : (log days : ℕ) → log ≤ 1564789514502464 → days ≤ 10950 → log * days / 365 / 140737488355328 ≤ 333
exponent-le log days l k =
    let large : log * days ≤ 1564789514502464 * 10950 = mul-le-mul l k in
    omega arith

-- ---- the slopes

pub slope-is : (i : ℕ) → log_slope i ≡ 2251799813685248 / (1000000 + 2048 * i) - 4
unfolding log_slope million
slope-is i = refl

pub slope-le : (i : ℕ) → log_slope i ≤ 2251799809
unfolding log_slope million
slope-le i =
    let less : 2251799813685248 / (1000000 + 2048 * i) < 2251799814 = (div-lt_iff_lt-mul {k = 1000000 + 2048 * i} (omega arith)).1 (omega arith) in
    omega arith
