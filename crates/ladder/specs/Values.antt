-- The value of a curve's flows, and their tolerance (document 01, "Margin"). What one flow comes to is a parameter v: its present value, or its
-- exact value. So the engine's figures and the exact ones are one definition, at two values.
use Rattle.std.specs.Prelude.{List, ℕ, ℤ}
use Rattle.curve.specs.declared.Node.{Node}
use Rattle.curve.specs.Rates.{rate_at}
use Rattle.discount.specs.declared.Flow.{Flow}
use Rattle.discount.specs.Flows.{total, sum, flow_value, flow_tolerance}
use Rattle.ladder.specs.declared.total.Total.{Total}
use Rattle.ladder.specs.Exposure.{Exposure}

module _ (v : (ℕ → ℕ) → Flow → ℕ) where
  -- the signed sum of the flows at the rates that the nodes give
  abbrev pub value_on : List Node → List Flow → ℤ
  value_on nodes fs = total (v (rate_at nodes)) fs

  -- "base value (signed sum)", at the curve's own rates
  abbrev pub base_of : Exposure → ℤ
  base_of e = value_on e.nodes e.flows

-- the sum of the flows' tolerances
abbrev pub tolerance_of : Exposure → ℕ
tolerance_of e = sum flow_tolerance e.flows

-- both, of the flows at the rates that the nodes give
abbrev pub total_on : List Node → List Flow → Total
total_on nodes fs = record { sum = value_on flow_value nodes fs; tolerance = sum flow_tolerance fs }
