-- The limits of nodes, curves and components (document 01, "Blocks of the book").
use Rattle.std.specs.Prelude.{ℕ, suc, ◌≤◌, ◌<◌, ◌≡◌, length, get_or, pos, nat_abs}
use Rattle.ground.specs.Limits.{last_day}
use Rattle.curve.specs.declared.Node.{Node}
use Rattle.curve.specs.declared.Curve.{Curve}
use Rattle.curve.specs.declared.Component.{Component}
use Rattle.curve.specs.declared.Components.{Components}
use Rattle.curve.specs.declared.Scenario.{Scenario}

-- the largest rate, in millionths
abbrev pub highest_rate : ℕ
highest_rate = 1000000

-- a node: day at or below 10,950, rate 0 to 1,000,000, components −1,000,000 to 1,000,000
pub record NodeLimits (n : Node) : Type 0 where
  pub day : n.day ≤ last_day
  pub rate : n.rate ≤ highest_rate
  pub first : nat_abs n.first ≤ 1000000
  pub second : nat_abs n.second ≤ 1000000
  pub third : nat_abs n.third ≤ 1000000

-- what a lookup past the end of a list of nodes answers
abbrev pub zero_node : Node
zero_node = record { day = 0; rate = 0; first = pos 0; second = pos 0; third = pos 0 }

-- a curve: 2 to 24 nodes, each in its limits, the days rising strictly
pub record ProperCurve (c : Curve) : Type 0 where
  pub places : length c.nodes ≡ 24
  pub least : 2 ≤ c.count
  pub most : c.count ≤ 24
  pub each : (i : ℕ) → i < c.count → NodeLimits (get_or c.nodes i zero_node)
  pub rising : (i : ℕ) → suc i < c.count → (get_or c.nodes i zero_node).day < (get_or c.nodes (suc i) zero_node).day

-- a component: 0 to 3 steps, a range of 0 to 10,000 hundredths
pub record ComponentLimits (x : Component) : Type 0 where
  pub steps : x.steps ≤ 3
  pub range : x.range ≤ 10000

-- a curve's three components
pub record ProperComponents (x : Components) : Type 0 where
  pub first : ComponentLimits x.first
  pub second : ComponentLimits x.second
  pub third : ComponentLimits x.third

-- a scenario: each coefficient −10,000 to 10,000 hundredths
pub record ScenarioLimits (s : Scenario) : Type 0 where
  pub first : nat_abs s.first ≤ 10000
  pub second : nat_abs s.second ≤ 10000
  pub third : nat_abs s.third ≤ 10000
