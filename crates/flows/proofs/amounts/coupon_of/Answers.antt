-- `flows::amounts::coupon_of` meets its contract.
use native.Mathlib.Omega.{arith}
use Rattle.flows.proofs.Bounds.{millionths-bound}
use Rattle.flows.proofs.amounts.coupon_of.Goals as goal

pub returns-clause-upper_bound : goal.returns-clause-upper_bound
returns-clause-upper_bound c =
    let b = c.args.b in
    omega (arith, c.millionths_of.ensures, millionths-bound b.nominal b.coupon 1 c.requires.0 (omega arith))
