-- What a quote that keeps its own rules gives the code: none of its amounts overflows, and its node is in its limits.
use Rattle.curve.specs.Limits.{NodeLimits}
use Rattle.flows.specs.Limits.{SoundTrade}
use Rattle.bond.specs.Limits.{PaymentLimits}
use Rattle.bootstrap.specs.declared.Quote.{Quote}
use Rattle.bootstrap.specs.Bought.{bond_trade, bond_payments}
use Rattle.bootstrap.specs.Refusals.{open_node}

pub record QuoteLimits (q : Quote) : Type 0 where
  pub trade : SoundTrade (bond_trade q)
  pub payments : PaymentLimits (bond_payments q)
  pub node : NodeLimits (open_node q)
