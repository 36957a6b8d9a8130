-- `figures::worked::amount` meets its contract.
use Rattle.decimal.specs.Product.{unit}
use Rattle.figures.proofs.worked.amount.Goals as goal

pub returns : goal.returns
unfolding unit
returns c = (c.within.ensures.0, c.within.ensures.2)
