-- How many of the listed days come before each node, found node by node.
use mathlib.Core.Path.{◌≡◌}
use mathlib.Core.List.{List}
use Prim.Native.Nat.{ℕ, ◌≤◌, ◌<◌}
use lib.ListN.{length, get_or}
use Rattle.curve.specs.declared.Curve.{Curve}
use Rattle.curve.specs.declared.Scenario.{Scenario}
use Rattle.curve.specs.Limits.{ProperCurve}
use Rattle.curve.specs.Stress.{stressed_curve}
use Rattle.curve.proofs.Stress.{stressed-node}
use Rattle.estimate.specs.Values.{DaysBefore, Ends}
use Rattle.estimate.proofs.CurveLines.{node}

-- ---- the first i nodes have their places in the list

pub record Ending (c : Curve) (days ends₀ ends : List ℕ) (i : ℕ) : Type 0 where
  pub most : i ≤ c.count
  pub places : length ends ≡ length ends₀
  pub each : (k : ℕ) → k < i → DaysBefore (node c k).day days (get_or ends k 0)

-- ---- a scenario moves no node's day

pub ends-stressed : (s : Scenario) (c : Curve) → ProperCurve c → (days ends : List ℕ) → Ends c days ends → Ends (stressed_curve s c) days ends
unfolding stressed_curve
ends-stressed s c p days ends e =
    record { places = e.places; each = λ k l. rw (stressed-node s c p k l) (e.each k l) }
