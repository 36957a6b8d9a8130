-- `ladder::net::deviation_of` meets its contract, by the fold over the ladder's flows.
use mathlib.Core.Path.{refl, ◌∙◌}
use native.Mathlib.Nat.{zero-add}
use native.Mathlib.Omega.{arith}
use Rattle.decimal.specs.Product.{unit}
use Rattle.netting.specs.Netting.{flow_deviation}
use Rattle.ladder.specs.Totals.{FlowLimits}
use Rattle.ladder.proofs.Folds.{folded-none, folded-next, folded-turn, folded-all, room-here, flow-limits, sum-fold, room-none}
use Rattle.ladder.proofs.Netting.{deviation-next}
use Rattle.ladder.proofs.net.deviation_of.Goals as goal
use Rattle.ladder.proofs.net.deviation_of.Goals.{After-flow-f}

pub loop-i-init : goal.loop-i-init
loop-i-init c = folded-none _ _ _ _ _ _ (room-none 200000 c.requires.few)

limits : (c : After-flow-f) → FlowLimits c.flow-f.result
limits c = flow-limits c.requires c.loop-i-test.true c.leg_at-leg.ensures c.loop-k-test.true c.flow-f.ensures

pub deviation-off-requires : goal.deviation-off-requires
unfolding unit
deviation-off-requires c = let f = limits c in (f.amount, f.day)

pub overflow_add-off : goal.overflow_add-off
overflow_add-off c =
    let f = limits (goal.at.overflow_add-off c).After-flow-f in
    rw c.deviation-off.ensures (omega (arith, (deviation-next _ _ f (room-here c.requires c.loop-i-test.true c.leg_at-leg.ensures c.loop-k.invariant c.loop-k-test.true)).fits))

pub loop-k-preserved : goal.loop-k-preserved
loop-k-preserved c =
    let f = limits (goal.at.loop-k-preserved c).After-flow-f in
    rw c.deviation-off.ensures
    (folded-next c.requires c.loop-i-test.true c.leg_at-leg.ensures c.loop-k.invariant c.loop-k-test.true c.flow-f.ensures refl (λ n k. deviation-next _ _ f k))

pub loop-i-preserved : goal.loop-i-preserved
loop-i-preserved c = folded-turn c.requires c.loop-i-test.true c.leg_at-leg.ensures c.loop-k.invariant c.loop-k.auto.k-end c.loop-k-test.false

pub returns : goal.returns
returns c = folded-all c.loop-i.invariant c.loop-i-test.false ∙ sum-fold flow_deviation 0 _ ∙ zero-add _
