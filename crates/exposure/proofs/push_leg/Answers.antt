-- `exposure::push_leg` meets its contract.
use mathlib.Core.Path.{sym, ◌∙◌}
use Rattle.exposure.proofs.Pushing.{push-one}
use Rattle.exposure.proofs.push_leg.Goals as goal

pub returns-clause-ladder_after : goal.returns-clause-ladder_after
returns-clause-ladder_after c =
    let a = c.args in
    rw c.copy_from_slice.ensures.after (push-one a.curve a.leg a.ladder.now a.schedules c.requires (sym c.stands_on.ensures ∙ c.if-not-stands_on.false))
