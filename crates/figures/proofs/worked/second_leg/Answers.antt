-- `figures::worked::second_leg` meets its contract.
use mathlib.Core.Path.{◌∙◌}
use Rattle.figures.specs.Worked.{second_leg_for}
use Rattle.figures.proofs.worked.second_leg.Goals as goal

pub returns : goal.returns
unfolding second_leg_for
returns c =
    c.second_leg_cash.ensures
    ∙ rw (c.within.ensures.0, c.rate.ensures.0, c.amount.ensures.0)
