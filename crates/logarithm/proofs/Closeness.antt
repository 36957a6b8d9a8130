-- A number near a power of the base of the logarithms is near document 01's factor.
use mathlib.Core.Path.{◌≡◌, sym, ap, ◌∙◌}
use Prim.Native.Nat.{ℕ, ◌+◌, ◌-◌, ◌*◌, ◌/◌, ◌%◌, ◌^◌, ◌≤◌, ◌<◌}
use native.Mathlib.Nat.{mul-pos, mul-le-mul, mul-le-mul_left, mul-le-mul_right, le_of_mul-le-mul_right, pow-le-pow_left, one-le-pow, div-mul-le_self, div-add-mod', mod-lt}
use native.Mathlib.Omega.{arith}
use lib.Pow.{pow-add}
use Rattle.laws.proofs.Powers.{mul-pow, pow-mul, sub-mul, le-of-pow-le}
use Rattle.decimal.specs.Product.{unit}
use Rattle.discount.specs.Discount.{million, year, factor}
use Rattle.discount.proofs.Roots.{year-pos, rate-pos}
use Rattle.discount.proofs.Factors.{Covers, factor-above, factor-below}
use Rattle.logarithm.specs.Logarithms.{scale, base_numerator, base_denominator}
use Rattle.logarithm.proofs.Exponents.{Low, High, Logged, numerator-pos, denominator-pos, numerator-le, raised}
use Rattle.logarithm.proofs.Ratios.{low-later}

-- ---- from exponents to the power inequality of document 01

-- the base's powers do not rise
falls : (i j : ℕ) → i ≤ j → base_numerator ^ j * base_denominator ^ i ≤ base_numerator ^ i * base_denominator ^ j
falls i j l =
    let rest : j ≡ i + (j - i) = omega arith in
    let step : base_numerator ^ (j - i) ≤ base_denominator ^ (j - i) = pow-le-pow_left numerator-le (j - i) in
    let all : base_numerator ^ (i + (j - i)) * base_denominator ^ i ≤ base_numerator ^ i * base_denominator ^ (i + (j - i)) =
    rw (pow-add base_numerator i (j - i), pow-add base_denominator i (j - i)) (omega (arith, mul-le-mul_left (base_numerator ^ i * base_denominator ^ i) step)) in
    rw (sym rest) at all

-- two ratios, one after the other
joined : (z n c m ax bx ae be : ℕ) → 0 < ax → 0 < be → z * ax ≤ c * bx → n * be ≤ m * ae → ae * bx ≤ ax * be → z * n ≤ c * m
joined z n c m ax bx ae be pa pb g h k =
    let scaled : z * n * (ax * be) ≤ c * m * (ax * be) = omega (arith, mul-le-mul g h, mul-le-mul_left (c * m) k) in
    le_of_mul-le-mul_right scaled (mul-pos pa pb)

module _ (r e s days z : ℕ) (g : Logged (million + r) e s) where
  fits-high : (c x : ℕ) → High z c x → x * year ≤ e * days → z ^ year * million ^ days ≤ c ^ year * (million + r) ^ days
  fits-high c x h l =
      joined _ _ _ _ _ _ _ _ (one-le-pow (x * year) base_numerator numerator-pos) (one-le-pow (e * days) base_denominator denominator-pos)
      (raised z c base_numerator base_denominator x year h.high) (raised million (million + r) base_denominator base_numerator e days g.most) (falls (x * year) (e * days) l)

  fits_low : (c x : ℕ) → Low z c x → (e + s) * days ≤ x * year → c ^ year * (million + r) ^ days ≤ z ^ year * million ^ days
  fits_low c x h l =
      joined _ _ _ _ _ _ _ _ (one-le-pow (x * year) base_denominator denominator-pos) (one-le-pow ((e + s) * days) base_numerator numerator-pos)
      (raised c z base_denominator base_numerator x year h.low) (raised (million + r) million base_numerator base_denominator (e + s) days g.least)
      (omega (arith, falls ((e + s) * days) (x * year) l))

-- ---- the discounting of n whole years, from that of the days: with n + 1 years in place of the last

discounted-years : (r days z c : ℕ) → z ^ year * million ^ days ≤ c ^ year * (million + r) ^ days
    → z * million ^ (days / year + 1) ≤ c * (million + r) ^ (days / year + 1)
discounted-years r days z c h =
    let n : ℕ = days / year in
    let j : ℕ = year - days % year in
    let sum : days + j ≡ (n + 1) * year = whole-years days in
    let more : million ^ j ≤ (million + r) ^ j = pow-le-pow_left (omega arith) j in
    let both : z ^ year * (million ^ days * million ^ j) ≤ c ^ year * ((million + r) ^ days * (million + r) ^ j) =
    omega (arith, mul-le-mul_right (million ^ j) h, mul-le-mul_left (c ^ year * (million + r) ^ days) more) in
    let all : z ^ year * million ^ (days + j) ≤ c ^ year * (million + r) ^ (days + j) =
    rw (pow-add million days j, pow-add (million + r) days j) both in
    let turned : z ^ year * (million ^ (n + 1)) ^ year ≤ c ^ year * ((million + r) ^ (n + 1)) ^ year =
    rw (← pow-mul million (n + 1) year, ← pow-mul (million + r) (n + 1) year, ← sum) all in
    le-of-pow-le _ _ year year-pos (rw (mul-pow z (million ^ (n + 1)) year, mul-pow c ((million + r) ^ (n + 1)) year) turned)
  where
    last : (q k : ℕ) → k < year → q * year + k + (year - k) ≡ (q + 1) * year
    last q k l = omega arith

    whole-years : (days : ℕ) → days + (year - days % year) ≡ (days / year + 1) * year
    whole-years days = ap (λ (d : ℕ). d + (year - days % year)) (sym (div-add-mod' days year)) ∙ last (days / year) (days % year) (mod-lt days year-pos)

-- t is enough for 2 k, discounted over n years, where it is for a part c of z with a day's discount less than a year's
pub enough : (k z c m s x y t a : ℕ) → 0 < z → 0 < m → z * (x * m) ≤ c * (y * s) → c * s ≤ a * m → k * a ≤ t * z → k * x ≤ t * y
enough k z c m s x y t a pz pm h g l =
    let scaled : k * x * (z * m) ≤ t * y * (z * m) =
    omega (arith, mul-le-mul_left k h, mul-le-mul_left (k * y) g, mul-le-mul_right (y * m) l) in
    le_of_mul-le-mul_right scaled (mul-pos pz pm)

-- ---- and so near the factor

module _ (r days z c t : ℕ) (small : Covers r days t) where
  near-above : r ≤ million → z ^ year * million ^ days ≤ c ^ year * (million + r) ^ days → (factor r days - t) * z ≤ c * unit
  near-above l h =
      let f : ℕ = factor r days - t in
      let scaled : (f * z) ^ year * (million + r) ^ days ≤ (c * unit) ^ year * (million + r) ^ days =
      simp mul-pow (omega (arith, mul-le-mul_right (z ^ year) (factor-above r days t small l), mul-le-mul_left (unit ^ year) h)) in
      le-of-pow-le _ _ year year-pos (le_of_mul-le-mul_right scaled (one-le-pow days (million + r) (rate-pos r)))

  near-below : c ^ year * (million + r) ^ days ≤ z ^ year * million ^ days → c * unit ≤ (factor r days + (t + 2 * (days / year))) * z
  near-below h =
      let f : ℕ = factor r days + (t + 2 * (days / year)) in
      let scaled : (c * unit) ^ year * (million + r) ^ days ≤ (f * z) ^ year * (million + r) ^ days =
      simp mul-pow (omega (arith, mul-le-mul_right (unit ^ year) h, mul-le-mul_left (z ^ year) (factor-below r days t small))) in
      le-of-pow-le _ _ year year-pos (le_of_mul-le-mul_right scaled (one-le-pow days (million + r) (rate-pos r)))

-- c and c + w stand on either side of the base to the power x; the logarithm of the year's factor lies between e and e + s; m units of the
-- exponent cover what the quotient by a year and s leave open, and d what these are in parts of z
module _ (r days z c w e s d t : ℕ) (l : r ≤ million) (pos : 0 < z) (g : Logged (million + r) e s) where
  abbrev pub x : ℕ
  x = e * days / 365

  abbrev pub m : ℕ
  m = s * days / 365 + 2

  cut : x * year ≤ e * days
  unfolding year
  cut = div-mul-le_self (e * days) 365

  covers : (e + s) * days ≤ (x + m) * year
  unfolding year
  covers = omega arith

  pub years-high : High z (c + w) x → z * million ^ (days / year + 1) ≤ (c + w) * (million + r) ^ (days / year + 1)
  years-high hi = discounted-years r days z (c + w) (fits-high r e s days z g (c + w) x hi cut)

  module _ (small : Covers r days t) where
    pub near-most : High z (c + w) x → factor r days * z ≤ (c + w) * unit + t * z
    near-most hi =
        let above' = near-above r days z (c + w) t small l (fits-high r e s days z g (c + w) x hi cut) in
        omega (arith, simp sub-mul at above')

    pub near-least : Low z c x → m ≤ scale → 2 * m * c ≤ d * scale → c * unit ≤ factor r days * z + (t + 2 * (days / year)) * z + d * unit
    near-least lo k h =
        let below' = near-below r days z (c - d) t small (fits_low r e s days z g (c - d) (x + m) (low-later z pos c x m d k h lo) covers) in
        omega (arith, simp sub-mul at below')
