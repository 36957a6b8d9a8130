-- Sums over flows, and the value of flows where the rates rise.
use mathlib.Core.Path.{◌≡◌, refl}
use mathlib.Core.List.{List, [], ◌∷◌, ◌++◌}
use Prim.Native.Nat.{ℕ, ◌+◌, ◌≤◌}
use native.Mathlib.Omega.{arith}
use Rattle.laws.specs.All.{All}
use Rattle.decimal.proofs.HalfUp.{discounted-mono}
use Rattle.discount.specs.declared.Flow.{Flow}
use Rattle.discount.specs.Discount.{present_value}
use Rattle.discount.specs.Flows.{sum, flow_value}
use Rattle.discount.proofs.Factors.{factor-falls}

pub sum-append : (v : Flow → ℕ) (fs gs : List Flow) → sum v (fs ++ gs) ≡ sum v fs + sum v gs
unfolding sum
sum-append v [] gs = omega arith
sum-append v (f ∷ fs) gs = omega (arith, sum-append v fs gs)

module _ (v w : Flow → ℕ) where
  pub sum_same : (fs : List Flow) → All (λ f. v f ≡ w f) fs → sum v fs ≡ sum w fs
  unfolding sum
  sum_same [] h = refl
  sum_same (f ∷ fs) h = omega (arith, h.0, sum_same fs h.1)

  pub sum_mono : ((f : Flow) → v f ≤ w f) → (fs : List Flow) → sum v fs ≤ sum w fs
  unfolding sum
  sum_mono h [] = omega arith
  sum_mono h (f ∷ fs) = omega (arith, h f, sum_mono h fs)

-- ---- no value rises where the rate rises

pub present-value-falls : (amount : ℕ) {r s : ℕ} (days : ℕ) → r ≤ s → present_value amount s days ≤ present_value amount r days
unfolding present_value
present-value-falls amount days h = discounted-mono amount (factor-falls days h)

pub sum-falls : (r s : ℕ → ℕ) → ((day : ℕ) → r day ≤ s day) → (fs : List Flow) → sum (flow_value s) fs ≤ sum (flow_value r) fs
sum-falls r s h = sum_mono (flow_value s) (flow_value r) (λ f. present-value-falls f.amount f.day (h f.day))
