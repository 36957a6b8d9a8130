-- `bond::value::value_between` meets its contract: what is held, with the value of the payments left, is the value of all.
use mathlib.Core.Path.{◌≡◌}
use Prim.Native.Nat.{◌+◌, ◌-◌, ◌*◌, ◌≤◌}
use native.Mathlib.Omega.{arith}
use Rattle.laws.specs.Walk.{table}
use Rattle.decimal.specs.Product.{unit}
use Rattle.curve.specs.Rates.{nodes_of}
use Rattle.legs.specs.Runs.{flow_of}
use Rattle.bond.specs.Value.{bond_value}
use Rattle.bond.proofs.Values.{value-two, value-one, value_none, value-most}
use Rattle.bond.proofs.value.value_between.Goals as goal
use Rattle.bond.proofs.value.value_between.Goals.{Joined-k-to, then-k-to, else-k-to}

module _ (c : Joined-k-to) where
  -- the whole fits
  whole : bond_value (nodes_of c.args.c) (table (flow_of c.args.l) c.args.from (c.args.to - c.args.from)) ≤ 120 * unit
  unfolding unit
  whole = let a = c.args in omega (arith, value-most a.l c.requires.1 (nodes_of a.c) a.from (a.to - a.from), c.requires.1.few)

  -- a turn: the value of the payments left is that of two, or of the last, and of those behind them
  turn : let a = c.args in let k = c.loop-k.k in
      bond_value (nodes_of a.c) (table (flow_of a.l) k (a.to - k)) ≡ c.if-k-to.sum + bond_value (nodes_of a.c) (table (flow_of a.l) (k + 2) (a.to - (k + 2)))
  turn =
      let a = c.args in
      let k = c.loop-k.k in
      elim c.if-k-to.branch [
        | then-k-to w ↦ rw (w.sum-is, w.value_of_two.ensures, w.flow.ensures, c.flow-f.ensures) (value-two (nodes_of a.c) a.l k a.to w.if-k-to.true)
        | else-k-to w ↦
            rw (w.sum-is, w.value_of.ensures, c.flow-f.ensures)
            (omega (arith, value-one (nodes_of a.c) a.l k a.to c.loop-k-test.true w.if-k-to.false, value_none (nodes_of a.c) a.l (k + 2) a.to (omega arith)))
      ]

pub overflow_add-sum : goal.overflow_add-sum
unfolding unit
overflow_add-sum c = let at = (goal.at.overflow_add-sum c).Joined-k-to in omega (arith, turn at, whole at)

pub loop-k-preserved : goal.loop-k-preserved
loop-k-preserved c = omega (arith, turn (goal.at.loop-k-preserved c).Joined-k-to)

pub returns : goal.returns
returns c = let a = c.args in omega (arith, value_none (nodes_of a.c) a.l c.loop-k.k a.to c.loop-k-test.false)

pub returns-after-k-to : goal.returns-after-k-to
returns-after-k-to c =
    let a = c.args in
    omega (arith, turn (goal.at.returns-after-k-to c).Joined-k-to, value_none (nodes_of a.c) a.l (c.loop-k.k + 2) a.to (omega arith))
