-- Signed cash flows and their sums at a rate for each day (document 01, "Margin").
use Rattle.std.specs.Prelude.{Bool, true, false, List, [], ◌∷◌, ℕ, ◌+◌, ℤ, pos, neg_ℤ, ◌+ℤ◌}
use Rattle.discount.specs.declared.Flow.{Flow}
use Rattle.discount.specs.Discount.{present_value, tolerance}
use Rattle.discount.specs.Exact.{exact}

-- "then signed": in for the holder, or out
abbrev pub signed : Bool → ℕ → ℤ
signed true n = pos n
signed false n = neg_ℤ (pos n)

-- the signed sum of a value of each flow
unfoldable pub total : (Flow → ℕ) → List Flow → ℤ
total v [] = pos 0
total v (f ∷ fs) = signed f.received (v f) +ℤ total v fs

-- the sum of a number of each flow
unfoldable pub sum : (Flow → ℕ) → List Flow → ℕ
sum v [] = 0
sum v (f ∷ fs) = v f + sum v fs

-- what a flow is worth, and what exactly, at a rate for each day; and its tolerance
abbrev pub flow_value : (ℕ → ℕ) → Flow → ℕ
flow_value rate f = present_value f.amount (rate f.day) f.day

abbrev pub flow_exact : (ℕ → ℕ) → Flow → ℕ
flow_exact rate f = exact f.amount (rate f.day) f.day

abbrev pub flow_tolerance : Flow → ℕ
flow_tolerance f = tolerance f.amount f.day
