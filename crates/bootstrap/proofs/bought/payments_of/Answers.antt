-- `bootstrap::bought::payments_of` meets its contract.
use mathlib.Core.Path.{◌∙◌, ap}
use Rattle.trade.specs.declared.Trade.{Trade}
use Rattle.legs.specs.declared.Legs.{Legs}
use Rattle.flows.specs.Capped.{capped_legs}
use Rattle.flows.specs.Counted.{counted_legs}
use Rattle.bootstrap.proofs.Payments.{all-counted, payments-capped}
use Rattle.bootstrap.proofs.bought.payments_of.Goals as goal

pub returns : goal.returns
returns c =
    let counted = ap (λ (t : Trade). counted_legs t) (c.trade_of.ensures ∙ rw c.bond_fields.ensures) ∙ all-counted c.args.q in
    ap (λ (l : Legs). l.payments) (c.capped_legs.ensures ∙ ap capped_legs counted) ∙ payments-capped c.args.q c.requires.0 c.requires.1
