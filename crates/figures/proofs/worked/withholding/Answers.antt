-- `figures::worked::withholding` meets its contract.
use mathlib.Core.Path.{ap, ◌∙◌}
use Rattle.decimal.specs.HalfUp.{withholding_on}
use Rattle.figures.proofs.worked.withholding.Goals as goal

pub returns : goal.returns
returns c = c.withholding_on.ensures ∙ ap withholding_on c.interest.ensures.0
