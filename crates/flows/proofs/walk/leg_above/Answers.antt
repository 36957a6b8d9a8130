-- `flows::walk::leg_above` meets its contract.
use mathlib.Core.Path.{sym}
use Rattle.decimal.specs.Product.{unit}
use Rattle.flows.proofs.Above.{any-leg}
use Rattle.flows.proofs.walk.leg_above.Goals as goal

pub returns : goal.returns
unfolding unit
returns c =
    sym (any-leg c.args.l)
