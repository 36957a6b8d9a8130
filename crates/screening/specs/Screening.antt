-- An estimate of each scenario's value, taken from every day only where mapped amounts leave the scenario open.
use Rattle.std.specs.Prelude.{◌≡◌, cond, List, ℕ, ◌≤◌, ◌<◌, ℤ, pos, nat_abs, ◌-ℤ◌, get_or, ◌≤ℤ◌}
use Rattle.std.specs.Int.Signed.{le_z}
use Rattle.curve.specs.declared.Curve.{Curve}
use Rattle.curve.specs.declared.Components.{Components}
use Rattle.curve.specs.Scenarios.{scenario_count}
use Rattle.estimate.specs.Values.{scenario_value}

-- of n values the one at m is the least
pub record Least (values : List ℤ) (n m : ℕ) : Type 0 where
  pub within : m < n
  pub least : (s : ℕ) → s < n → get_or values m (pos 0) ≤ℤ get_or values s (pos 0)

-- some scenario's cheap value, from every day, is at most a number
pub record SomeCheapValueAtMost (c : Curve) (x : Components) (nets : List ℤ) (v : ℤ) : Type 0 where
  pub place : ℕ
  pub within : place < scenario_count x
  pub most : scenario_value c x nets place ≤ℤ v

-- no estimate is above its scenario's cheap value
pub record NoneAbove (c : Curve) (x : Components) (nets values : List ℤ) : Type 0 where
  pub each : (s : ℕ) → s < scenario_count x → get_or values s (pos 0) ≤ℤ scenario_value c x nets s

-- and none below that of every scenario: so the least estimate is the least cheap value
pub record Screened (c : Curve) (x : Components) (nets values : List ℤ) : Type 0 where
  pub below : NoneAbove c x nets values
  pub cover : (s : ℕ) → s < scenario_count x → SomeCheapValueAtMost c x nets (get_or values s (pos 0))

-- an estimate at most a limit is taken from every day
unfoldable pub refined_value : Curve → Components → List ℤ → ℤ → ℕ → ℤ → ℤ
refined_value c x nets limit s v = cond (le_z v limit) (scenario_value c x nets s) v

-- the first n values less a spare
pub record Lowered (spare : ℕ) (values₀ values : List ℤ) (n : ℕ) : Type 0 where
  pub each : (s : ℕ) → s < n → get_or values s (pos 0) ≡ get_or values₀ s (pos 0) -ℤ pos spare

-- a number of 64 bits with room for another
abbrev pub Small : ℤ → Type 0
Small v = nat_abs v ≤ 1000000000000000000

-- the first n values are
abbrev pub AllSmall : List ℤ → ℕ → Type 0
AllSmall values n = (s : ℕ) → s < n → Small (get_or values s (pos 0))
