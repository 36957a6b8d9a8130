use Rattle.std.proofs.Common.{rules}
use Rattle.decimal.specs.Product.{unit}
use Rattle.discount.proofs.Compounding.{powers-none}
use Rattle.discount.proofs.daily.day_power.Goals as goal

pub run-taken-requires : goal.run-taken-requires
unfolding unit
run-taken-requires c = search (rules, powers-none)
