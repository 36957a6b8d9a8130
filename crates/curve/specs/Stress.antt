-- Nodes and curves under a scenario (document 01, "Rates and scenarios").
use Rattle.std.specs.Prelude.{ℕ, min, map, ◌++◌, drop, ℤ, pos, negsuc, ◌+ℤ◌, ◌*ℤ◌}
use Rattle.std.specs.Int.Signed.{quot_z}
use Rattle.curve.specs.declared.Node.{Node}
use Rattle.curve.specs.declared.Curve.{Curve}
use Rattle.curve.specs.declared.Scenario.{Scenario}
use Rattle.curve.specs.Rates.{nodes_of}
use Rattle.curve.specs.Limits.{highest_rate}

-- rate + (sum of coefficient × component) / 100 cut towards zero
unfoldable pub shifted : Scenario → Node → ℤ
shifted s n =
    pos n.rate +ℤ quot_z (s.first *ℤ n.first +ℤ s.second *ℤ n.second +ℤ s.third *ℤ n.third) (pos 100)

-- brought into 0 to 1,000,000
abbrev pub clamped : ℤ → ℕ
clamped (pos n) = min n highest_rate
clamped (negsuc n) = 0

-- a stressed node: only its rate changes
abbrev pub stressed : Scenario → Node → Node
stressed s n =
    record { day = n.day; rate = clamped (shifted s n); first = n.first; second = n.second; third = n.third }

-- every node of the curve stressed; unused places stay
unfoldable pub stressed_curve : Scenario → Curve → Curve
stressed_curve s c =
    record { nodes = map (stressed s) (nodes_of c) ++ drop c.count c.nodes; count = c.count }
