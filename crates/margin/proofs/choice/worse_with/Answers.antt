-- `margin::choice::worse_with` meets its contract: where the nodes are the same, so are the losses.
use mathlib.Core.Path.{ap}
use Rattle.curve.specs.Stress.{stressed_curve}
use Rattle.curve.proofs.Stress.{proper-stressed}
use Rattle.margin.specs.declared.losses.Loss.{Loss}
use Rattle.margin.proofs.Stressing.{losses-limits, loss-read}
use Rattle.margin.proofs.Choosing.{same-worse}
use Rattle.margin.proofs.choice.worse_with.Goals as goal
use Rattle.margin.proofs.choice.worse_with.Goals.{After-curve_in, After-loss_of, Start}

-- both curves are the curve stressed
pub same_rates-requires : goal.same_rates-requires
unfolding stressed_curve
same_rates-requires c =
    let proper = c.requires.0.limits.proper in (
      rw c.curve_in-stressed.ensures (proper-stressed _ _ proper),
      rw c.curve_in.ensures (proper-stressed _ _ proper),
      rw (c.curve_in-stressed.ensures, c.curve_in.ensures),
    )

pub returns-then-same_rates : goal.returns-then-same_rates
returns-then-same_rates c =
    let a = c.args in
    let e = rw (c.same_rates.ensures, c.curve_in-stressed.ensures, c.curve_in.ensures) at c.if-same_rates.true in
    same-worse a.valued.position a.ladder.now c.requires.0.limits a.worst c.requires.1 a.s e

pub worse-requires : goal.worse-requires
worse-requires c =
    let limits = c.requires.0.limits in
    (losses-limits _ _ limits _ _ (ap (λ (v : Loss). v.amount) c.requires.1.loss), losses-limits _ _ limits c.args.s _ (loss-read _ _ limits _ _ c.loss_of.ensures))
