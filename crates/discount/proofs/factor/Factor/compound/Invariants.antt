-- What is taken so far is the product taken as many times as there were turns.
use mathlib.Core.Path.{◌≡◌}
use Rattle.discount.specs.Discount.{compound}
use Rattle.discount.proofs.factor.Factor.compound.Given as goal

abbrev pub invariant-loop : goal.invariant-loop
invariant-loop l = l.taken.0 ≡ compound l.fn.self.0 l.other.0 l.counter
