-- From the figures of curves in an array to the margin of an account: what a caller of `margin_of` cites.
use mathlib.Core.Path.{◌≡◌, sym, ◌∙◌, ap}
use mathlib.Core.List.{List, [], ◌∷◌, ◌++◌, map}
use Prim.Native.Nat.{ℕ, zero, suc, ◌-◌, ◌≤◌, ◌<◌}
use native.Mathlib.Omega.{arith}
use lib.ListN.{length, get_or, take, replicate}
use lib.Seq.{get_or-take, length-take-le}
use Rattle.ladder.specs.Exposure.{Exposure, FlowsFit}
use Rattle.margin.specs.declared.CurveMargin.{CurveMargin}
use Rattle.margin.specs.declared.CurrencyMargin.{CurrencyMargin}
use Rattle.margin.specs.Margins.{curve_margin, currency_margin, no_curve, assembled, margin_of, MarginLimits, PlacesLimits}
use Rattle.margin.proofs.Sizes.{margin-limits}

abbrev pub AllFlowsFit : List Exposure → Type 0
AllFlowsFit [] = Unit {0}
AllFlowsFit (e ∷ es) = FlowsFit e × AllFlowsFit es

all-limits : (es : List Exposure) → AllFlowsFit es → (i : ℕ) → i < length (map curve_margin es) → MarginLimits (get_or (map curve_margin es) i no_curve)
all-limits [] h i l = absurd (omega arith)
all-limits (e ∷ es) h zero l = margin-limits e h.0
all-limits (e ∷ es) h (suc i) l = all-limits es h.1 i (omega arith)

-- ---- the margin by its parts

pub assembled-is : (account : ℕ) (ms : List CurveMargin) (count : ℕ) (places : List CurveMargin) (a b c : CurrencyMargin)
    → count ≤ length ms
    → places ≡ take count ms ++ replicate (8 - count) no_curve
    → a ≡ currency_margin 1 (take count ms)
    → b ≡ currency_margin 2 (take count ms)
    → c ≡ currency_margin 3 (take count ms)
    → record { account = account; curves = places; currencies = a ∷ b ∷ c ∷ [] } ≡ assembled account (take count ms)
unfolding assembled
assembled-is account ms count places a b c h ep ea eb ec = rw (length-take-le count ms h, ep, ea, eb, ec)

-- the first count places hold the figures of the exposures
module _ (ms : List CurveMargin) (count : ℕ) (es : List Exposure) (e : take count ms ≡ map curve_margin es) where
  pub places-limits : count ≤ 8 → length (map curve_margin es) ≡ count → AllFlowsFit es → PlacesLimits ms count
  places-limits most n h =
      record {
        most = most;
        each = λ i l. rw (sym (get_or-take count ms i no_curve l) ∙ ap (λ (r : List CurveMargin). get_or r i no_curve) e) (all-limits es h i (omega arith));
      }

  pub margin-of : (account : ℕ) → assembled account (take count ms) ≡ margin_of account es
  margin-of account = rw e
