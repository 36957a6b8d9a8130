-- The curves of an accepted book, and their figures in eight places, one by one.
use mathlib.Core.Path.{◌≡◌, sym, ap, ◌∙◌, subst}
use mathlib.Core.List.{List, map}
use Prim.Native.Nat.{ℕ, zero, suc, ◌+◌, ◌≤◌, ◌<◌}
use native.Mathlib.Decide.{ℕ_discrete}
use native.Mathlib.Omega.{arith}
use lib.ListN.{length, get_or, take, set, length-set, length-map}
use lib.Seq.{ext_get_or, get_or-take, length-take-le, get_or-set_same, get_or-set_other}
use Rattle.laws.specs.Walk.{table}
use Rattle.laws.proofs.Walk.{length-table, get_d-table}
use Rattle.laws.proofs.Lists.{get_d-map-in}
use Rattle.book.specs.Parts.{curve_count}
use Rattle.book.proofs.Accepted.{Sound}
use Rattle.margin.specs.declared.CurveMargin.{CurveMargin}
use Rattle.ladder.specs.Exposure.{Exposure}
use Rattle.margin.specs.Margins.{curve_margin, no_curve, PlacesLimits}
use Rattle.margin.proofs.Accounts.{AllFlowsFit, places-limits}
use Rattle.exposure.specs.Exposures.{exposure_at, exposures}
use Rattle.exposure.proofs.Fitting.{exposure-fits}

module _ (s : List ℕ) where
  pub length-exposures : length (exposures s) ≡ curve_count s
  unfolding exposures
  length-exposures = length-table (exposure_at s) 1 (curve_count s)

  pub length-figures : length (map curve_margin (exposures s)) ≡ curve_count s
  length-figures = length-map (exposures s) curve_margin ∙ length-exposures

  -- the figures of curve i, from 0
  pub figures-at : (i : ℕ) → i < curve_count s → get_or (map curve_margin (exposures s)) i no_curve ≡ curve_margin (exposure_at s (1 + i))
  unfolding exposures
  figures-at i l =
      let d : Exposure = exposure_at s 0 in
      get_d-map-in curve_margin (table (exposure_at s) 1 (curve_count s)) i d no_curve (omega (arith, length-table (exposure_at s) 1 (curve_count s)))
      ∙ ap curve_margin (get_d-table (exposure_at s) 1 (curve_count s) i d l)

-- the first k places hold the figures of the first k curves
pub record CurvesPlaced (s : List ℕ) (curves : List CurveMargin) (k : ℕ) : Type 0 where
  pub places : length curves ≡ 8
  pub each : (i : ℕ) → i < k → get_or curves i no_curve ≡ curve_margin (exposure_at s (1 + i))

pub placed-as : (s : List ℕ) (curves : List CurveMargin) {k n : ℕ} → k ≡ n → CurvesPlaced s curves k → CurvesPlaced s curves n
placed-as s curves e h = subst (λ (k : ℕ). CurvesPlaced s curves k) e h

module _ (s : List ℕ) (curves : List CurveMargin) (k : ℕ) (h : CurvesPlaced s curves k) where
  pub placed-next : (m : CurveMargin) → k < 8 → m ≡ curve_margin (exposure_at s (k + 1)) → CurvesPlaced s (set curves k m) (k + 1)
  placed-next m l e = record { places = length-set curves k m ∙ h.places; each = λ i b. go i b (ℕ_discrete i k) }
    where
      go : (i : ℕ) → i < k + 1 → Dec (i ≡ k) → get_or (set curves k m) i no_curve ≡ curve_margin (exposure_at s (1 + i))
      go i b (yes p) =
          let q : k + 1 ≡ 1 + i = omega arith in
          rw p (get_or-set_same curves k m no_curve (omega (arith, h.places))) ∙ e ∙ ap (λ (n : ℕ). curve_margin (exposure_at s n)) q
      go i b (no p) = get_or-set_other curves k i m no_curve p ∙ h.each i (omega arith)

  pub placed-all : k ≡ curve_count s → k ≤ 8 → take k curves ≡ map curve_margin (exposures s)
  placed-all e l =
      let t : length (take k curves) ≡ k = length-take-le k curves (omega (arith, h.places)) in
      ext_get_or no_curve (take k curves) (map curve_margin (exposures s)) (t ∙ e ∙ sym (length-figures s))
      (λ i b. get_or-take k curves i no_curve (omega arith) ∙ h.each i (omega arith) ∙ sym (figures-at s i (omega arith)))

module _ (s : List ℕ) (used : ℕ) (b : Sound s used) where
  all_fit : (i n : ℕ) → AllFlowsFit (table (exposure_at s) i n)
  unfolding table
  all_fit i zero = tt
  all_fit i (suc n) = (exposure-fits s used b i, all_fit (suc i) n)

  pub exposures-fit : AllFlowsFit (exposures s)
  unfolding exposures
  exposures-fit = all_fit 1 (curve_count s)

  pub placed-limits : (curves : List CurveMargin) (k : ℕ) → k ≡ curve_count s → take k curves ≡ map curve_margin (exposures s) → PlacesLimits curves k
  placed-limits curves k e t = places-limits curves k (exposures s) t (omega (arith, b.most)) (length-figures s ∙ sym e) exposures-fit
