-- `estimate::values::value_in` meets its contract.
use mathlib.Core.Path.{◌≡◌, ◌∙◌, ap}
use mathlib.Core.List.{List, map}
use lib.IntN.{ℤ}
use Rattle.curve.specs.declared.Node.{Node}
use Rattle.curve.specs.declared.Curve.{Curve}
use Rattle.curve.specs.declared.Scenario.{Scenario}
use Rattle.curve.specs.Limits.{ProperCurve}
use Rattle.curve.specs.Rates.{nodes_of}
use Rattle.curve.specs.Stress.{stressed, stressed_curve}
use Rattle.curve.proofs.Stress.{nodes-stressed, proper-stressed}
use Rattle.estimate.specs.Values.{cheap_value}
use Rattle.estimate.proofs.Ending.{ends-stressed}
use Rattle.estimate.proofs.CurveValues.{value_read}
use Rattle.estimate.proofs.values.value_in.Goals as goal
use Rattle.estimate.proofs.values.value_in.Goals.{After-stressed, Start}

-- the entry's record

pub value_on-requires : goal.value_on-requires
value_on-requires c =
    let p = c.requires in
    (rw c.stressed.ensures (proper-stressed _ _ p.0), rw c.stressed.ensures (ends-stressed _ _ p.0 _ _ p.2), p.3)

-- what is worth at the nodes of a stressed curve
at-stressed : (s : Scenario) (c : Curve) → ProperCurve c → (e : Curve) (nets : List ℤ) (z : ℤ) → e ≡ stressed_curve s c → z ≡ cheap_value (nodes_of e) nets
    → z ≡ cheap_value (map (stressed s) (nodes_of c)) nets
at-stressed s c p e nets z f v = v ∙ ap (λ (ns : List Node). cheap_value ns nets) (rw f (nodes-stressed s c p))

pub returns : goal.returns
returns c =
    value_read _ _ _ c.requires.3 _ (at-stressed _ _ c.requires.0 _ _ _ c.stressed.ensures c.value_on.ensures)
