-- `bond::value::value_of_two` meets its contract.
use native.Mathlib.Omega.{arith}
use Rattle.decimal.specs.Product.{unit}
use Rattle.curve.specs.Rates.{nodes_of}
use Rattle.bond.proofs.Values.{two-most}
use Rattle.bond.proofs.value.value_of_two.Goals as goal

pub overflow_add-result : goal.overflow_add-result
unfolding unit
overflow_add-result c =
    omega (arith, c.in-Ok-Ok.ensures, c.in-Ok-Ok.ensures', two-most (nodes_of c.args.c) c.args.f c.args.g c.requires.1 c.requires.2)
