-- `flows::trade_legs::payment_leg` meets its contract.
use mathlib.Core.Path.{◌∙◌}
use Rattle.flows.specs.Legs.{payments_of}
use Rattle.flows.proofs.Capped.{signed-capped}
use Rattle.flows.proofs.trade_legs.payment_leg.Goals as goal

pub returns : goal.returns
returns c =
    let a = c.args in
    c.signed_leg.ensures ∙ rw (c.payments_of.ensures) (signed-capped a.sign (payments_of a.s))
