-- `ladder::valuing::total_of` meets its contract, by the fold over the ladder's flows.
use mathlib.Core.Path.{◌∙◌}
use native.Mathlib.Omega.{arith}
use Rattle.ladder.specs.Held.{with_waiting}
use Rattle.ladder.proofs.Folds.{folded-none, folded-next, folded-turn, folded-all, room-here, flow-limits}
use Rattle.ladder.proofs.Totals.{plus_flows-none}
use Rattle.ladder.proofs.Held.{limits-none, limits-less}
use Rattle.ladder.proofs.valuing.total_of.Goals as goal

pub loop-i-init : goal.loop-i-init
unfolding with_waiting
loop-i-init c = record { held = folded-none _ _ _ _ _ _ (limits-none c.requires.1.few); kept = c.requires.2 }

pub add-requires : goal.add-requires
add-requires c =
    let p = c.requires in
    let leg = c.leg_at-leg.ensures in
    (limits-less (omega arith) (room-here p.1 c.loop-i-test.true leg c.loop-k.invariant.held c.loop-k-test.true), p.0, flow-limits p.1 c.loop-i-test.true leg c.loop-k-test.true c.flow.ensures, c.loop-k.invariant.kept)

pub loop-k-preserved : goal.loop-k-preserved
loop-k-preserved c =
    let more = c.add.ensures in
    record {
      held = folded-next c.requires.1 c.loop-i-test.true c.leg_at-leg.ensures c.loop-k.invariant.held c.loop-k-test.true c.flow.ensures more.with_flow.held more.with_flow.limits;
      kept = more.kept_factors;
    }

pub loop-i-preserved : goal.loop-i-preserved
loop-i-preserved c =
    record {
      held = folded-turn c.requires.1 c.loop-i-test.true c.leg_at-leg.ensures c.loop-k.invariant.held c.loop-k.auto.k-end c.loop-k-test.false;
      kept = c.loop-k.invariant.kept;
    }

pub returns : goal.returns
returns c = c.finished.ensures ∙ folded-all c.loop-i.invariant.held c.loop-i-test.false ∙ plus_flows-none _ _
