-- `bond::value::value_between` meets its contract: what is held, with the value of the payments left, is the value of all.
use mathlib.Core.Path.{◌≡◌}
use Prim.Native.Nat.{◌+◌, ◌-◌}
use Rattle.laws.specs.Walk.{table}
use Rattle.curve.specs.Rates.{nodes_of}
use Rattle.legs.specs.Runs.{flow_of}
use Rattle.bond.specs.Value.{bond_value}
use Rattle.bond.proofs.value.value_between.Given as goal

abbrev pub invariant-loop-k : goal.invariant-loop-k
invariant-loop-k l =
    l.sum + bond_value (nodes_of l.c) (table (flow_of l.l) l.k (l.to - l.k)) ≡ bond_value (nodes_of l.c) (table (flow_of l.l) l.from (l.to - l.from))
