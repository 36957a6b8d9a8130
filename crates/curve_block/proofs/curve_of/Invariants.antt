-- `curve_block::curve_of` meets its contract.
use mathlib.Core.Path.{◌≡◌}
use Prim.Native.Nat.{ℕ, ◌<◌}
use lib.ListN.{length, get_or}
use Rattle.curve.specs.Limits.{zero_node}
use Rattle.curve_block.specs.Parts.{node_at}
use Rattle.curve_block.proofs.curve_of.Given as goal

abbrev pub invariant-loop-i : goal.invariant-loop-i
invariant-loop-i l =
    record {
      long : length l.nodes ≡ 24;
      read : (k : ℕ) → k < l.i → get_or l.nodes k zero_node ≡ node_at l.b k;
    }
