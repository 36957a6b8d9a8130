-- `bond::value::value_by_factors` meets its contract.
use mathlib.Core.Path.{◌≡◌}
use native.Mathlib.Omega.{arith}
use Rattle.decimal.specs.Product.{unit}
use Rattle.discount.specs.Flows.{flow_value}
use Rattle.curve.specs.Rates.{nodes_of, rate_at}
use Rattle.bond.proofs.Values.{factor-value, rate-most, two-most}
use Rattle.bond.proofs.value.value_by_factors.Goals as goal
use Rattle.bond.proofs.value.value_by_factors.Goals.{After-discounted-2, After-factors-both, Start}

pub factors-both-requires : goal.factors-both-requires
factors-both-requires c =
    let proper = c.requires.0 in
    (rw c.rate_at.ensures (rate-most _ _ proper), rw c.rate_at-2.ensures (rate-most _ _ proper))

module _ (c : After-discounted-2) where
  first : c.discounted.result ≡ flow_value (rate_at (nodes_of c.args.c)) c.args.f
  first = factor-value _ c.args.f c.rate_at.ensures c.factors-both.ensures.0 c.discounted.ensures

  second : c.discounted-2.result ≡ flow_value (rate_at (nodes_of c.args.c)) c.args.g
  second = factor-value _ c.args.g c.rate_at-2.ensures c.factors-both.ensures.2 c.discounted-2.ensures

pub overflow_add-result : goal.overflow_add-result
unfolding unit
overflow_add-result c =
    omega (arith, first c, second c, two-most (nodes_of c.args.c) c.args.f c.args.g c.requires.1 c.requires.2)

pub returns : goal.returns
returns c = omega (arith, first c, second c)
