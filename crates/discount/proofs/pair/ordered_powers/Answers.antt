use Rattle.std.proofs.Common.{rules}
use Rattle.decimal.specs.Product.{unit}
use Rattle.discount.proofs.Compounding.{powers-none}
use Rattle.discount.proofs.pair.ordered_powers.Goals as goal

pub run-short-requires : goal.run-short-requires
unfolding unit
run-short-requires c = search (rules, powers-none)
