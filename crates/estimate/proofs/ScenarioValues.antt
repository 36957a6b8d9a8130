-- The values of the scenarios, filled in one by one.
use mathlib.Core.Path.{◌≡◌}
use mathlib.Core.List.{List, map}
use Prim.Native.Nat.{ℕ, ◌≤◌, ◌<◌}
use lib.IntN.{ℤ, pos}
use lib.ListN.{length, get_or}
use Rattle.laws.proofs.Signed.{read}
use Rattle.curve.specs.declared.Curve.{Curve}
use Rattle.curve.specs.declared.Components.{Components}
use Rattle.curve.specs.declared.Scenario.{Scenario}
use Rattle.curve.specs.Rates.{nodes_of}
use Rattle.curve.specs.Scenarios.{scenario_count, scenario_at}
use Rattle.curve.specs.Stress.{stressed}
use Rattle.estimate.specs.Values.{cheap_value, scenario_value, Listed}
use Rattle.estimate.proofs.CurveValues.{value_read}

-- what the code values, in scenario s, read back from its bits
module _ (c : Curve) (x : Components) (nets : List ℤ) (days : List ℕ) (s : ℕ) (h : Listed nets days) where
  pub scenario-read : (k : Scenario) (z : ℤ) → k ≡ scenario_at x s → z ≡ cheap_value (map (stressed k) (nodes_of c)) nets → read z ≡ scenario_value c x nets s
  scenario-read k z f v = value_read _ nets days h z (rw f at v)

-- the scenarios before s have their values
pub record Filled (c : Curve) (x : Components) (nets values₀ values : List ℤ) (s : ℕ) : Type 0 where
  pub most : s ≤ scenario_count x
  pub places : length values ≡ length values₀
  pub each : (k : ℕ) → k < s → get_or values k (pos 0) ≡ scenario_value c x nets k
