-- `flows::trade_legs::cash_leg` meets its contract.
use mathlib.Core.Path.{◌∙◌}
use Rattle.legs.specs.Runs.{one_flow}
use Rattle.flows.proofs.Capped.{signed-capped}
use Rattle.flows.proofs.trade_legs.cash_leg.Goals as goal

pub returns : goal.returns
returns c =
    let a = c.args in
    c.signed_leg.ensures
    ∙ rw (c.one_flow.ensures, c.cap.ensures) (signed-capped a.sign (one_flow a.curve a.day a.amount))
