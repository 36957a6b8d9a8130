-- The choice of the worst scenario among those that estimates leave.
use Rattle.std.specs.Prelude.{Bool, List, ◌≡◌, ℕ, ◌*◌, ◌≤◌, ◌<◌, eqb, ℤ, pos, ◌+ℤ◌, length, get_or, ◌≤ℤ◌, ◌<ℤ◌}
use Rattle.laws.specs.Distance.{Below}
use Rattle.laws.specs.Every.{every}
use Rattle.discount.specs.Flows.{flow_value}
use Rattle.curve.specs.declared.Curve.{Curve}
use Rattle.curve.specs.Limits.{zero_node}
use Rattle.curve.specs.Scenarios.{scenario_count}
use Rattle.ladder.specs.Exposure.{Exposure}
use Rattle.margin.specs.Losses.{value_at}
use Rattle.ladder.specs.Totals.{most_flows}
use Rattle.margin.specs.declared.losses.Loss.{Loss}

-- some scenario's value is at most a number, but for the deviation
pub record SomeValueAtMost (e : Exposure) (v : ℤ) (deviation : ℕ) : Type 0 where
  pub place : ℕ
  pub within : place < scenario_count e.components
  pub near : Below (value_at flow_value e place) v deviation

-- an estimate for each scenario: its value is at least that, and some scenario's value is at most that, but for a deviation that is the same for all
pub record Estimates (e : Exposure) (values : List ℤ) (deviation : ℕ) : Type 0 where
  pub places : length values ≡ 343
  pub below : (s : ℕ) → s < scenario_count e.components → Below (get_or values s (pos 0)) (value_at flow_value e s) deviation
  pub cover : (s : ℕ) → s < scenario_count e.components → SomeValueAtMost e (get_or values s (pos 0)) deviation
  pub small : deviation ≤ most_flows * 200000

-- what two estimates may be off together
unfoldable pub slack_of : ℕ → ℕ
slack_of deviation = 2 * deviation

-- above the least estimate by more than the slack, a scenario cannot be the worst
abbrev pub limit_of : ℤ → ℕ → ℤ
limit_of least deviation = least +ℤ pos (slack_of deviation)

-- a scenario is kept where its estimate is at most a limit
abbrev pub Kept : List ℤ → ℤ → ℕ → Type 0
Kept values limit s = get_or values s (pos 0) ≤ℤ limit

-- some scenario below n is kept
pub record SomeKept (values : List ℤ) (limit : ℤ) (n : ℕ) : Type 0 where
  pub place : ℕ
  pub within : place < n
  pub kept : Kept values limit place

-- k is the first that is kept
pub record FirstKept (values : List ℤ) (limit : ℤ) (k : ℕ) : Type 0 where
  pub kept : Kept values limit k
  pub none : (s : ℕ) → s < k → limit <ℤ get_or values s (pos 0)

-- w is the first with the largest loss among the scenarios below n that are kept
pub record WorstKept (loss : ℕ → ℤ) (values : List ℤ) (limit : ℤ) (n : ℕ) (w : Loss) : Type 0 where
  pub within : w.scenario < n
  pub amount : w.amount ≡ loss w.scenario
  pub most : (s : ℕ) → s < n → Kept values limit s → loss s ≤ℤ w.amount
  pub first : (s : ℕ) → s < w.scenario → Kept values limit s → loss s <ℤ w.amount

-- the rates of two curves' nodes are the same
unfoldable pub same_rates : Curve → Curve → Bool
same_rates a b = every (λ i. eqb (get_or a.nodes i zero_node).rate (get_or b.nodes i zero_node).rate) 0 a.count
