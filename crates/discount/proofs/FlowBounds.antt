-- The computed value of a list of signed flows and the exact one are apart by no more than the sum of the tolerances.
use mathlib.Core.Bool.{Bool, true, false}
use mathlib.Core.List.{List, [], ◌∷◌}
use Prim.Native.Nat.{ℕ, ◌+◌, ◌≤◌}
use native.Mathlib.Omega.{arith}
use lib.IntN.{ℤ, pos, ◌+ℤ◌}
use Rattle.laws.specs.Distance.{Within}
use Rattle.laws.proofs.Integer.{int, plus, up_pos, down_pos, up_neg, down-neg}
use Rattle.discount.specs.Discount.{million}
use Rattle.discount.specs.declared.Flow.{Flow}
use Rattle.discount.specs.Flows.{signed, total, sum, flow_value, flow_exact, flow_tolerance}
use Rattle.discount.proofs.Bound.{not-over, not-under}

-- every flow's day has a rate of at most one
abbrev pub Rated : (ℕ → ℕ) → List Flow → Type 0
Rated rate [] = Unit {0}
Rated rate (f ∷ fs) = (rate f.day ≤ million) × Rated rate fs

signed-within : (s : Bool) (a b t : ℕ) → a ≤ b + t → b ≤ a + t → Within (signed s a) (signed s b) t
signed-within true a b t h k = omega (int, up_pos a, up_pos b, down_pos a, down_pos b)
signed-within false a b t h k = omega (int, up_neg (pos a), up_neg (pos b), down-neg (pos a), down-neg (pos b), up_pos a, up_pos b, down_pos a, down_pos b)

plus-within : (a b c d : ℤ) (s t : ℕ) → Within a b s → Within c d t → Within (a +ℤ c) (b +ℤ d) (s + t)
plus-within a b c d s t h k = omega (int, plus a c, plus b d)

pub flows-within : (rate : ℕ → ℕ) (fs : List Flow) → Rated rate fs
    → Within (total (flow_value rate) fs) (total (flow_exact rate) fs) (sum flow_tolerance fs)
unfolding total sum
flows-within rate [] h = signed-within true 0 0 0 (omega arith) (omega arith)
flows-within rate (f ∷ fs) h =
    plus-within _ _ _ _ _ _
    (signed-within f.received _ _ _ (not-over f.amount (rate f.day) f.day h.0) (not-under f.amount (rate f.day) f.day))
    (flows-within rate fs h.1)
