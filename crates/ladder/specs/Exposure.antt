-- What an account has on a curve (document 01, "Margin"), and the position that the engine holds of it, beside its ladder.
use Rattle.std.specs.Prelude.{List, ℕ, ◌≤◌, eqb, length}
use Rattle.laws.specs.Select.{select}
use Rattle.curve.specs.declared.Node.{Node}
use Rattle.curve.specs.declared.Components.{Components}
use Rattle.curve.specs.Limits.{ProperCurve, ProperComponents}
use Rattle.curve.specs.Rates.{nodes_of}
use Rattle.discount.specs.declared.Flow.{Flow}
use Rattle.ladder.specs.declared.Position.{Position}
use Rattle.ladder.specs.Ladder.{ladder_flows, LadderLimits}
use Rattle.ladder.specs.Totals.{AllFlowLimits, most_flows}

-- a curve with the flows on it
pub record Exposure : Type 0 where
  pub currency : ℕ
  pub nodes : List Node
  pub components : Components
  pub flows : List Flow

-- "A curve's flows are those that stand on it"
unfoldable pub flows_on : ℕ → List Flow → List Flow
flows_on curve fs = select (λ (f : Flow). eqb f.curve curve) fs

-- its flows are in their limits, and few enough
pub record FlowsFit (e : Exposure) : Type 0 where
  pub each : AllFlowLimits e.flows
  pub few : length e.flows ≤ most_flows

-- that of a position: its flows are those of its ladder
abbrev pub exposure_of : Position → List ℕ → Exposure
exposure_of p ladder =
    record {
      currency = p.currency;
      nodes = nodes_of p.curve;
      components = p.components;
      flows = ladder_flows p.id ladder p.schedules;
    }

-- a position in its limits
pub record PositionLimits (p : Position) (ladder : List ℕ) : Type 0 where
  pub proper : ProperCurve p.curve
  pub stress : ProperComponents p.components
  pub schedules : LadderLimits p.id ladder p.schedules
