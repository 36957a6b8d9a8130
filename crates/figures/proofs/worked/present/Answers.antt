-- `figures::worked::present` meets its contract.
use mathlib.Core.Path.{◌∙◌}
use Rattle.figures.specs.Worked.{present_for}
use Rattle.figures.proofs.worked.present.Goals as goal

pub returns : goal.returns
unfolding present_for
returns c = c.present_value.ensures ∙ rw (c.rate.ensures.0, c.amount.ensures.0)
