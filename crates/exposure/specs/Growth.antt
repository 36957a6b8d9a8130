-- A ladder that grows by flows.
use Rattle.std.specs.Prelude.{◌≡◌, false, List, ◌++◌, ℕ, ◌+◌, ◌≤◌, ◌<◌}
use Rattle.discount.specs.declared.Flow.{Flow}
use Rattle.legs.specs.declared.Legs.{Legs}
use Rattle.legs.specs.Runs.{legs_flows}
use Rattle.flows.specs.Legs.{any_above}
use Rattle.legs.specs.Limits.{LegsLimits}
use Rattle.ladder.specs.Exposure.{flows_on}
use Rattle.ladder.specs.Ladder.{leg_at, ladder_flows, ScheduleLimits}

-- the first n schedules are in their limits
abbrev pub SchedulesInLimits : ℕ → List ℕ → ℕ → Type 0
SchedulesInLimits curve ladder n = (i : ℕ) → i < n → ScheduleLimits (leg_at curve ladder i)

-- from n schedules to m, by those of the flows that stand on the curve
pub record Grown (curve : ℕ) (fs : List Flow) (before : List ℕ) (n : ℕ) (after : List ℕ) (m : ℕ) : Type 0 where
  pub flows : ladder_flows curve after m ≡ ladder_flows curve before n ++ flows_on curve fs
  pub limits : SchedulesInLimits curve before n → SchedulesInLimits curve after m
  pub few : m ≤ n + 3

-- legs in their limits
pub record LegsSound (l : Legs) : Type 0 where
  pub reach : LegsLimits l
  pub within : any_above (legs_flows l) ≡ false
