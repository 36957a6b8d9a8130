-- A curve with one node more, behind its last (document 02, wish 1).
use Rattle.std.specs.Prelude.{ℕ, ◌+◌, ◌-◌, get_or, set}
use Rattle.curve.specs.declared.Node.{Node}
use Rattle.curve.specs.declared.Curve.{Curve}
use Rattle.curve.specs.Limits.{zero_node}

-- the last node's day
abbrev pub end_day : Curve → ℕ
end_day c = (get_or c.nodes (c.count - 1) zero_node).day

-- its nodes are those of the curve and the new one (`nodes-lengthened` of proofs/Lengthened.antt)
unfoldable pub lengthened_curve : Node → Curve → Curve
lengthened_curve n c = record { nodes = set c.nodes c.count n; count = c.count + 1 }

-- the node at a rate
abbrev pub at_rate : Node → ℕ → Node
at_rate n rate = record { day = n.day; rate = rate; first = n.first; second = n.second; third = n.third }
