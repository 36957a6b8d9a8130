-- `discount::entry::breaks_value_range` meets its contract.
use borrow.Author.Rules.{rules}
use Rattle.decimal.specs.Product.{unit}
use Rattle.discount.specs.Discount.{million}
use Rattle.discount.specs.Valued.{breaks_value_range}
use Rattle.discount.proofs.entry.breaks_value_range.Goals as goal

pub returns : goal.returns
unfolding unit million breaks_value_range
returns c = search rules
