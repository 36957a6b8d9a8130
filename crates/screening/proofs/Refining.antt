-- Refined estimates: none is above its scenario's value from every day, and each is at least that of some scenario.
use mathlib.Core.Path.{◌≡◌, refl, sym, ◌∙◌}
use mathlib.Core.Bool.{Bool, true, false, cond}
use mathlib.Core.List.{List}
use Prim.Native.Nat.{ℕ, ◌+◌, ◌≤◌, ◌<◌}
use native.Mathlib.Omega.{arith}
use borrow.Author.Count.{below_more}
use lib.IntN.{ℤ, pos}
use lib.ListN.{length, get_or, set, length-set}
use lib.Seq.{get_or-set_same, get_or-set_other}
use lib.Signed.{le_z, ◌≤ℤ◌, ◌<ℤ◌, ≤ℤ_refl}
use Rattle.laws.proofs.Integer.{int, le_z-no}
use Rattle.curve.specs.declared.Curve.{Curve}
use Rattle.curve.specs.declared.Components.{Components}
use Rattle.curve.specs.Scenarios.{scenario_count}
use Rattle.estimate.specs.Values.{scenario_value, ScenarioValues}
use Rattle.screening.specs.Screening.{SomeCheapValueAtMost, NoneAbove, Screened, refined_value}

module _ (c : Curve) (x : Components) (nets : List ℤ) where
  -- values that are all taken from every day
  pub filled-screened : (values : List ℤ) → ScenarioValues c x nets values → Screened c x nets values
  filled-screened values f =
      record {
        below = record { each = λ s k. rw (f.each s k) (≤ℤ_refl (scenario_value c x nets s)) };
        cover = λ s k. rw (f.each s k) (record { place = s; within = k; most = ≤ℤ_refl (scenario_value c x nets s) });
      }

  module _ (limit : ℤ) where
    pub refined-kept : (s : ℕ) (v : ℤ) → le_z v limit ≡ true → refined_value c x nets limit s v ≡ scenario_value c x nets s
    unfolding refined_value
    refined-kept s v e = rw e

    pub refined-left : (s : ℕ) (v : ℤ) → le_z v limit ≡ false → refined_value c x nets limit s v ≡ v
    unfolding refined_value
    refined-left s v e = rw e

    -- ---- one by one

    pub record Refining (values₀ values : List ℤ) (n : ℕ) : Type 0 where
      pub places : length values ≡ length values₀
      pub done : (s : ℕ) → s < n → get_or values s (pos 0) ≡ refined_value c x nets limit s (get_or values₀ s (pos 0))
      pub rest : (s : ℕ) → n ≤ s → get_or values s (pos 0) ≡ get_or values₀ s (pos 0)

    module _ (values₀ : List ℤ) where
      pub refining-next : (values : List ℤ) (n : ℕ) → Refining values₀ values n → n < length values₀ → (z : ℤ) → z ≡ refined_value c x nets limit n (get_or values n (pos 0))
          → Refining values₀ (set values n z) (n + 1)
      refining-next values n h k z e =
          record {
            places = length-set values n z ∙ h.places;
            done =
                below_more _ n
                (λ s l. get_or-set_other values n s z (pos 0) (λ q. absurd (omega arith)) ∙ h.done s l)
                (get_or-set_same values n z (pos 0) (omega (arith, h.places)) ∙ (rw (h.rest n (omega arith)) at e));
            rest = λ s l. get_or-set_other values n s z (pos 0) (λ q. absurd (omega arith)) ∙ h.rest s (omega arith);
          }

      -- one above the limit stays
      pub refining-left : (values : List ℤ) (n : ℕ) → Refining values₀ values n → le_z (get_or values n (pos 0)) limit ≡ false → Refining values₀ values (n + 1)
      refining-left values n h e =
          let same = h.rest n (omega arith) in
          record {
            places = h.places;
            done = below_more _ n h.done (same ∙ sym (refined-left n _ (rw same at e)));
            rest = λ s l. h.rest s (omega arith);
          }

      -- the limit is some scenario's value
      pub refined-screened : (m : ℕ) → m < scenario_count x → limit ≡ scenario_value c x nets m → NoneAbove c x nets values₀ → (values : List ℤ)
          → Refining values₀ values (scenario_count x) → Screened c x nets values
      unfolding refined_value
      refined-screened m w e low values h =
          record {
            below = record { each = λ s k. rw (h.done s k) (below s k (le_z (get_or values₀ s (pos 0)) limit)) };
            cover = λ s k. rw (h.done s k) (cover s k (le_z (get_or values₀ s (pos 0)) limit) refl);
          }
        where
          below : (s : ℕ) → s < scenario_count x → (t : Bool) → cond t (scenario_value c x nets s) (get_or values₀ s (pos 0)) ≤ℤ scenario_value c x nets s
          below s k true = ≤ℤ_refl (scenario_value c x nets s)
          below s k false = low.each s k

          cover : (s : ℕ) → s < scenario_count x → (t : Bool) → le_z (get_or values₀ s (pos 0)) limit ≡ t → SomeCheapValueAtMost c x nets (cond t (scenario_value c x nets s) (get_or values₀ s (pos 0)))
          cover s k true q = record { place = s; within = k; most = ≤ℤ_refl (scenario_value c x nets s) }
          cover s k false q =
              let above : limit <ℤ get_or values₀ s (pos 0) = le_z-no (get_or values₀ s (pos 0)) limit q in
              record { place = m; within = w; most = rw (← e) (omega (int, above)) }
