-- The figures of an accepted book: where they stand in its margin, and what they come to at most.
use mathlib.Core.Path.{◌≡◌, refl, ap, ◌∙◌}
use mathlib.Core.Bool.{Bool, true, false, cond}
use mathlib.Core.List.{List, [], ◌∷◌, map}
use Prim.Native.Nat.{ℕ, zero, suc, ◌+◌, ◌-◌, ◌*◌, ◌≤◌, ◌<◌}
use native.Mathlib.Nat.{suc-mul, mul-le-mul_right, le_trans}
use native.Mathlib.Omega.{arith}
use lib.Dec.{eqb}
use lib.IntN.{ℤ, nat_abs, ◌+ℤ◌}
use lib.ListN.{length, get_or, replicate, length-append, length-replicate, get_or-append}
use Rattle.laws.proofs.Signed.{abs-add, abs-sub}
use Rattle.decimal.specs.Product.{unit}
use Rattle.curve.proofs.Scenarios.{scenarios-most}
use Rattle.book.specs.Parts.{curve_count}
use Rattle.book.proofs.Accepted.{Sound, curve-sound}
use Rattle.ladder.specs.Totals.{most_flows}
use Rattle.margin.specs.declared.CurveMargin.{CurveMargin}
use Rattle.margin.specs.declared.CurrencyMargin.{CurrencyMargin}
use Rattle.ladder.specs.Exposure.{Exposure, FlowsFit}
use Rattle.margin.specs.Margins.{figures_at, curve_margin, sum_in, currency_margin, no_curve, assembled}
use Rattle.ladder.proofs.Sizes.{tolerance-most}
use Rattle.margin.proofs.Sizes.{margin-limits, first-largest}
use Rattle.margin.proofs.Accounts.{AllFlowsFit}
use Rattle.report_block.proofs.Report.{Places}
use Rattle.exposure.specs.Exposures.{exposure_at, exposures}
use Rattle.exposure.proofs.Fitting.{exposure-fits}
use Rattle.report.specs.Entry.{margin_in}
use Rattle.report.proofs.Placed.{length-exposures, length-figures, figures-at, exposures-fit}

-- the figures of a curve come to at most this
pub record CurveSizes (m : CurveMargin) : Type 0 where
  pub base : nat_abs m.base ≤ most_flows * unit
  pub worstloss : nat_abs m.worstloss ≤ 2 * (most_flows * unit)
  pub scenario : m.scenario < 343
  pub currency : m.currency ≤ 3
  pub tolerance : m.tolerance ≤ most_flows * 1000

-- and those of a currency, of at most eight curves
pub record CurrencySizes (m : CurrencyMargin) : Type 0 where
  pub initial : nat_abs m.initial ≤ 16 * (most_flows * unit)
  pub variation : nat_abs m.variation ≤ 8 * (most_flows * unit)
  pub total : nat_abs m.total ≤ 24 * (most_flows * unit)

-- ---- the sum of a currency's figures

module _ (currency : ℕ) (figure : CurveMargin → ℤ) (most : ℕ) (each : (e : Exposure) → FlowsFit e → nat_abs (figure (curve_margin e)) ≤ most) where
  sum-size : (es : List Exposure) → AllFlowsFit es → nat_abs (sum_in currency figure (map curve_margin es)) ≤ length es * most
  unfolding sum_in
  sum-size [] h = omega arith
  sum-size (e ∷ es) h = go (eqb (curve_margin e).currency currency) (sum-size es h.1)
    where
      go : (t : Bool) → nat_abs (sum_in currency figure (map curve_margin es)) ≤ length es * most
          → nat_abs (cond t (figure (curve_margin e) +ℤ sum_in currency figure (map curve_margin es)) (sum_in currency figure (map curve_margin es))) ≤ suc (length es) * most
      go true r = omega (arith, suc-mul (length es) most, abs-add (figure (curve_margin e)) (sum_in currency figure (map curve_margin es)), each e h.0)
      go false r = omega (arith, suc-mul (length es) most)

module _ (s : List ℕ) (used : ℕ) (b : Sound s used) where
  -- ---- curve k of the book

  pub curve-sizes : (k : ℕ) → 1 ≤ k → k ≤ curve_count s → CurveSizes (curve_margin (exposure_at s k))
  unfolding curve_margin figures_at exposure_at
  curve-sizes k l m =
      let f = exposure-fits s used b k in
      let limits = margin-limits (exposure_at s k) f in
      let c = curve-sound s used b k l m in
      record {
        base = limits.base;
        worstloss = limits.worstloss;
        scenario = omega (arith, (first-largest (exposure_at s k)).within, scenarios-most _ c.components);
        currency = c.most;
        tolerance = tolerance-most (exposure_at s k) f;
      }

  -- ---- a currency

  pub currency-sizes : (currency : ℕ) → CurrencySizes (currency_margin currency (map curve_margin (exposures s)))
  unfolding currency_margin
  currency-sizes currency =
      let all = exposures-fit s used b in
      let few : length (exposures s) ≤ 8 = omega (arith, length-exposures s, b.most) in
      let lost = sum-size currency (λ m. m.worstloss) (2 * (most_flows * unit)) (λ e f. (margin-limits e f).worstloss) (exposures s) all in
      let based = sum-size currency (λ m. m.base) (most_flows * unit) (λ e f. (margin-limits e f).base) (exposures s) all in
      let i = le_trans lost (mul-le-mul_right (2 * (most_flows * unit)) few) in
      let v = le_trans based (mul-le-mul_right (most_flows * unit) few) in
      record {
        initial = omega (arith, i);
        variation = v;
        total = omega (arith, i, v, abs-sub (sum_in currency (λ m. m.base) (map curve_margin (exposures s))) (sum_in currency (λ m. m.worstloss) (map curve_margin (exposures s))));
      }

  -- ---- the margin's places

  abbrev all-figures : List CurveMargin
  all-figures = map curve_margin (exposures s)

  pub places : Places (margin_in s)
  unfolding margin_in assembled
  places =
      let spare = replicate (8 - length all-figures) no_curve in
      record {
        curves = length-append all-figures spare ∙ omega (arith, length-replicate (8 - length all-figures) no_curve, length-figures s, b.most);
        currencies = refl;
      }

  pub place_of : (k : ℕ) → 1 ≤ k → k ≤ curve_count s → get_or (margin_in s).curves (k - 1) no_curve ≡ curve_margin (exposure_at s k)
  unfolding margin_in assembled
  place_of k l m =
      let e : 1 + (k - 1) ≡ k = omega arith in
      get_or-append all-figures (replicate (8 - length all-figures) no_curve) no_curve (k - 1) (omega (arith, length-figures s))
      ∙ figures-at s (k - 1) (omega arith)
      ∙ ap (λ (j : ℕ). curve_margin (exposure_at s j)) e

  -- TRY, USD and EUR stand in that order
  pub currency-at : (currency : ℕ) → 1 ≤ currency → currency ≤ 3 → (d : CurrencyMargin) → get_or (margin_in s).currencies (currency - 1) d ≡ currency_margin currency (map curve_margin (exposures s))
  unfolding margin_in assembled
  currency-at zero l m d = absurd (omega arith)
  currency-at (suc zero) l m d = refl
  currency-at (suc (suc zero)) l m d = refl
  currency-at (suc (suc (suc zero))) l m d = refl
  currency-at (suc (suc (suc (suc n)))) l m d = absurd (omega arith)
