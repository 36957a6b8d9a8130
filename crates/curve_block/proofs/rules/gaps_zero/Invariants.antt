-- `curve_block::rules::gaps_zero` meets its contract.
use mathlib.Core.Path.{◌≡◌}
use Prim.Native.Nat.{◌-◌}
use Rattle.laws.specs.Every.{every}
use Rattle.curve_block.specs.Parts.{node_count}
use Rattle.curve_block.specs.Rules.{gap_zero, gaps_zero}
use Rattle.curve_block.proofs.rules.gaps_zero.Given as goal

abbrev pub invariant-loop-i : goal.invariant-loop-i
invariant-loop-i l = gaps_zero l.b ≡ every (gap_zero l.b) l.i (node_count l.b - l.i)
