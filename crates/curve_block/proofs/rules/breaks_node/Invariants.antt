-- `curve_block::rules::breaks_node` meets its contract.
use mathlib.Core.Path.{◌≡◌}
use mathlib.Core.Bool.{not}
use Prim.Native.Nat.{◌-◌}
use Rattle.laws.specs.Every.{every}
use Rattle.curve_block.specs.Parts.{node_count}
use Rattle.curve_block.specs.Rules.{day_before, sound_at, breaks_node}
use Rattle.curve_block.proofs.rules.breaks_node.Given as goal

abbrev pub invariant-loop-i : goal.invariant-loop-i
invariant-loop-i l =
    record {
      behind : l.before ≡ day_before l.b l.i;
      left : breaks_node l.b ≡ not (every (sound_at l.b) l.i (node_count l.b - l.i));
    }
