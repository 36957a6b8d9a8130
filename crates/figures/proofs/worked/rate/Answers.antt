-- `figures::worked::rate` meets its contract.
use Rattle.discount.specs.Discount.{million}
use Rattle.figures.proofs.worked.rate.Goals as goal

pub returns : goal.returns
unfolding million
returns c = (c.within.ensures.0, c.within.ensures.2, c.within.ensures.2)
