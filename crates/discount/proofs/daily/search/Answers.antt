use Rattle.std.proofs.Common.{rules}
use Rattle.discount.proofs.Compounding.{powers-none}
use Rattle.discount.proofs.daily.search.Goals as goal

pub run-requires : goal.run-requires
run-requires c = search (rules, powers-none)
