-- `figures::worked::indexed` meets its contract: a coupon is at most its nominal.
use native.Mathlib.Omega.{arith}
use Rattle.flows.proofs.Bounds.{millionths-bound}
use Rattle.figures.specs.Worked.{indexed_for}
use Rattle.figures.proofs.worked.indexed.Goals as goal

pub indexed_by-requires : goal.indexed_by-requires
indexed_by-requires c =
    omega (arith, c.millionths_of-payment.ensures, millionths-bound c.amount.result c.rate.result 1 c.amount.ensures.1 c.rate.ensures.2)

pub returns : goal.returns
unfolding indexed_for
returns c =
    rw (c.unwrap_or.ensures, c.indexed_by.ensures, c.within-2.ensures.0, c.within.ensures.0, c.millionths_of-payment.ensures, c.rate.ensures.0, c.amount.ensures.0)
