-- `ladder::valuing::Valuing::finished` meets its contract.
use mathlib.Core.Path.{◌≡◌}
use Rattle.curve.specs.Rates.{nodes_of, rate_at}
use Rattle.curve.proofs.Rates.{curve-rate-limit}
use Rattle.discount.specs.Discount.{million}
use Rattle.discount.specs.Flows.{flow_value}
use Rattle.ladder.specs.Held.{with_waiting}
use Rattle.ladder.proofs.Held.{at-rate, value-most, waiting-limits}
use Rattle.ladder.proofs.valuing.Valuing.finished.Goals as goal
use Rattle.ladder.proofs.valuing.Valuing.finished.Goals.{After-present_value-value}

pub present_value-value-requires : goal.present_value-value-requires
unfolding million
present_value-value-requires c =
    ((waiting-limits c.in-Some.is c.requires.0).1.amount, rw c.rate_at.ensures (curve-rate-limit _ c.requires.1 _))

-- the value is the waiting flow's
worth : (c : After-present_value-value) → c.present_value-value.result ≡ flow_value (rate_at (nodes_of c.args.curve)) c.in-Some.f
worth c = at-rate _ c.in-Some.f c.rate_at.ensures c.present_value-value.ensures

pub with_flow-requires : goal.with_flow-requires
with_flow-requires c =
    let w = waiting-limits c.in-Some.is c.requires.0 in
    (w.0, w.1, rw (worth (goal.at.with_flow-requires c).After-present_value-value) (value-most _ _ w.1))

pub returns-in-Some : goal.returns-in-Some
unfolding with_waiting
returns-in-Some c = rw (c.with_flow.ensures, worth (goal.at.returns-in-Some c).After-present_value-value, c.in-Some.is)

pub returns-in-None : goal.returns-in-None
unfolding with_waiting
returns-in-None c = rw c.in-None.is
