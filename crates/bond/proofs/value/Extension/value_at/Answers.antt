-- `bond::value::Extension::value_at` meets its contract.
use native.Mathlib.Omega.{arith}
use borrow.Author.Rules.{rules}
use Rattle.decimal.specs.Product.{unit}
use Rattle.bond.proofs.Extended.{longer-proper, value-whole, value-limit}
use Rattle.bond.proofs.value.Extension.value_at.Goals as goal

pub value_between-requires : goal.value_between-requires
value_between-requires c =
    let pre = c.requires in
    let proper = longer-proper pre.0 c.at_rate.ensures c.lengthened-longer.ensures pre.1 in
    search rules

pub overflow_add-result : goal.overflow_add-result
unfolding unit
overflow_add-result c =
    let pre = c.requires in
    omega (arith, value-limit pre.0 _ c.value_between.ensures)

pub returns : goal.returns
returns c =
    let pre = c.requires in
    value-whole pre.0 c.at_rate.ensures c.lengthened-longer.ensures c.value_between.ensures
