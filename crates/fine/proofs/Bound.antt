-- Document 01's factor lies within the bracket of the fine one.
use mathlib.Core.Path.{◌≡◌}
use Prim.Native.Nat.{ℕ, ◌+◌, ◌*◌, ◌/◌, ◌%◌, ◌^◌, ◌≤◌, ◌<◌}
use native.Mathlib.Nat.{mul-le-mul, mul-le-mul_right, lt-div-mul-add, pow-suc}
use native.Mathlib.Numerals.{add-one}
use native.Mathlib.Omega.{arith}
use lib.Dec.{lit<}
use Rattle.laws.proofs.Powers.{sub-mul}
use Rattle.decimal.specs.Product.{unit}
use Rattle.discount.specs.Discount.{million, year, factor}
use Rattle.discount.proofs.Roots.{million-pos}
use Rattle.discount.proofs.Factors.{Covers}
use Rattle.logarithm.specs.Logarithms.{scale, fine_whole, step, log_of}
use Rattle.logarithm.proofs.Exponents.{Low, High, Logged, scale-is}
use Rattle.logarithm.proofs.Ratios.{logged-more}
use Rattle.logarithm.proofs.Steps.{step-le, step-most, step-least}
use Rattle.logarithm.proofs.Rows.{fine-pos, log-sum-le, exponent-le}
use Rattle.logarithm.proofs.Logarithms.{at_least, log-row}
use Rattle.logarithm.proofs.Closeness.{enough, years-high, near-most, near-least}
use Rattle.fine.specs.Fine.{log_at, fine_factor, spread, lost, below, above, bracket_of, bracket_at, InBracket}
use Rattle.fine.proofs.Antilogs.{antilog-low, antilog-high}

-- ---- the logarithm of a rate: each row loses 32 units at most, and so does the last step

log-near : (r : ℕ) → Logged (million + r) (log_at r) (32 * (r / 2048) + 32)
unfolding log_at
log-near r =
    let i : ℕ = r / 2048 in
    let j : ℕ = r % 2048 in
    let m : ℕ = million + 2048 * i in
    let few : j ≤ 2048 = omega arith in
    let next : Logged (m + j) (log_of i + step m j) (32 * i + 32) =
    logged-more m (log_of i) (32 * i) j (step m j) 32 (log-row i) (step-most m j (at_least i) few) (step-least m j (at_least i) few) in
    let same : m + j ≡ million + r = omega arith in
    rw same at next

pub log-at-le : (r : ℕ) → r ≤ 1000000 → log_at r ≤ 1564789514502464
unfolding log_at
log-at-le r l = log-sum-le r l _ (omega (arith, step-le (million + 2048 * (r / 2048)) (r % 2048) (at_least (r / 2048)) (omega arith)))

-- ---- from one unit to another

-- m units of the exponent at c, in parts of fine_whole
units : (m c : ℕ) → 2 * m * c ≤ (m * c / 2251799813685248 + 1) * scale
units m c = rw scale-is (doubled m c (m * c / 2251799813685248) (lt-div-mul-add (lit< tt)))
  where
    doubled : (m c d : ℕ) → m * c < d * 2251799813685248 + 2251799813685248 → 2 * m * c ≤ (d + 1) * 4503599627370496
    doubled m c d h = omega arith

-- n parts of unit, in parts of fine_whole
more : (n : ℕ) → n * fine_whole ≤ (4398046511104 * n / 1000000000000 + 1) * unit
unfolding fine_whole unit
more n =
    let rest : 4398046511104 * n < 4398046511104 * n / 1000000000000 * 1000000000000 + 1000000000000 = lt-div-mul-add (lit< tt) in
    omega arith

up : (n d : ℕ) → 0 < d → n ≤ (n / d + 1) * d
up n d pos = omega (arith, lt-div-mul-add {a = n} pos)

lost-covers : (r days c : ℕ) → 2 * (days % year) * ((c + 12) * (million + r) / million + 1) ≤ lost r days c * fine_whole
unfolding lost year million fine_whole
lost-covers r days c = omega arith

-- ---- what was found

module _ (r days : ℕ) (l : r ≤ 1000000) (k : days ≤ 10950) where
  rate-le : r ≤ million
  unfolding million
  rate-le = l

  abbrev c : ℕ
  c = fine_factor r days

  abbrev t : ℕ
  t = lost r days c

  abbrev s : ℕ
  s = 32 * (r / 2048) + 32

  abbrev short : ℕ
  short = (s * days / 365 + 2) * c / 2251799813685248

  few : s * days / 365 + 2 ≤ scale
  few =
      let i : s ≤ 15648 = omega arith in
      let all : s * days ≤ 15648 * 10950 = mul-le-mul i k in
      omega (arith, scale-is)

  high : High fine_whole (c + 12) (log_at r * days / 365)
  unfolding fine_factor
  high = antilog-high (log_at r * days / 365) (exponent-le (log_at r) days (log-at-le r l) k)

  low : Low fine_whole c (log_at r * days / 365)
  unfolding fine_factor
  low = antilog-low (log_at r * days / 365)

  -- `lost` is enough
  small : Covers r days t
  small =
      let a : ℕ = (c + 12) * (million + r) / million + 1 in
      let years : fine_whole * (million ^ (days / year) * million) ≤ (c + 12) * ((million + r) ^ (days / year) * (million + r)) =
      simp (add-one, pow-suc) at (years-high r days fine_whole c 12 (log_at r) s 0 0 rate-le fine-pos (log-near r) high) in
      enough (2 * (days % year)) fine_whole (c + 12) million (million + r) (million ^ (days / year)) ((million + r) ^ (days / year)) t a fine-pos million-pos years
      (up ((c + 12) * (million + r)) million million-pos) (lost-covers r days c)

  found-most : factor r days * fine_whole ≤ (c + (13 + 4398046511104 * t / 1000000000000)) * unit
  found-most =
      upper (factor r days * fine_whole) c (t * fine_whole) (4398046511104 * t / 1000000000000) unit
      (near-most r days fine_whole c 12 (log_at r) s 0 t rate-le fine-pos (log-near r) small high) (more t)
    where
      upper : (f c z n u : ℕ) → f ≤ (c + 12) * u + z → z ≤ (n + 1) * u → f ≤ (c + (13 + n)) * u
      upper f c z n u g h = omega arith

  found-least : c * unit ≤ factor r days * fine_whole + (2 + short + 4398046511104 * (t + 2 * (days / 365)) / 1000000000000) * unit
  unfolding year
  found-least =
      lower (factor r days * fine_whole) c ((t + 2 * (days / 365)) * fine_whole) short (4398046511104 * (t + 2 * (days / 365)) / 1000000000000) unit
      (near-least r days fine_whole c 12 (log_at r) s (short + 1) t rate-le fine-pos (log-near r) small low few (units (s * days / 365 + 2) c))
      (more (t + 2 * (days / 365)))
    where
      lower : (f c z a n u : ℕ) → c * u ≤ f + z + (a + 1) * u → z ≤ (n + 1) * u → c * u ≤ f + (2 + a + n) * u
      lower f c z a n u g h = omega arith

-- ---- no more than what the definitions say

below-enough : (r days c : ℕ)
    → 2 + ((32 * (r / 2048) + 32) * days / 365 + 2) * c / 2251799813685248 + 4398046511104 * (lost r days c + 2 * (days / 365)) / 1000000000000
    ≤ below r days c
unfolding below spread
below-enough r days c = omega arith

above-enough : (r days c : ℕ) → 13 + 4398046511104 * lost r days c / 1000000000000 ≤ above r days c
unfolding above
above-enough r days c = omega arith

pub fine-between : (r days : ℕ) → r ≤ 1000000 → days ≤ 10950 → InBracket (bracket_at r days) r days
unfolding bracket_at bracket_of
fine-between r days l k =
    let c : ℕ = fine_factor r days in
    record {
      least = simp sub-mul (omega (arith, found-least r days l k, mul-le-mul_right unit (below-enough r days c)));
      most = omega (arith, found-most r days l k, mul-le-mul_right unit (above-enough r days c));
    }
