-- A position with its base value, beside its ladder.
use Rattle.std.specs.Prelude.{List, ◌≡◌, ℕ}
use Rattle.discount.specs.Flows.{flow_value}
use Rattle.ladder.specs.Exposure.{exposure_of, PositionLimits}
use Rattle.ladder.specs.Values.{base_of}
use Rattle.margin.specs.declared.ValuedPosition.{ValuedPosition}

-- a position in its limits, and its base value
pub record Based (v : ValuedPosition) (ladder : List ℕ) : Type 0 where
  pub limits : PositionLimits v.position ladder
  pub value : v.base ≡ base_of flow_value (exposure_of v.position ladder)
