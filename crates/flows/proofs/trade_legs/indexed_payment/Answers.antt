-- `flows::trade_legs::indexed_payment` meets its contract.
use Rattle.flows.specs.Amounts.{indexed_of}
use Rattle.decimal.specs.Product.{unit}
use Rattle.flows.proofs.Capped.{capped-scaled}
use Rattle.flows.proofs.trade_legs.indexed_payment.Goals as goal

pub returns : goal.returns
unfolding indexed_of unit
returns c = rw (c.unwrap_or.ensures, c.indexed_by.ensures, capped-scaled (indexed_of c.args.i c.args.payment))
