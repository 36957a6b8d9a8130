-- The worst of a curve's losses, as the engine finds it.
use Rattle.std.specs.Prelude.{cond, ◌≡◌, ℕ, ◌*◌, ◌≤◌, ◌<◌, nat_abs}
use Rattle.std.specs.Int.Signed.{lt_z}
use Rattle.decimal.specs.Product.{unit}
use Rattle.discount.specs.Flows.{flow_value}
use Rattle.curve.specs.Scenarios.{scenario_count}
use Rattle.ladder.specs.Exposure.{Exposure}
use Rattle.margin.specs.Losses.{loss_at, worst_at}
use Rattle.ladder.specs.Totals.{most_flows}
use Rattle.margin.specs.declared.losses.Loss.{Loss}

-- the worse of two losses, and the first of equal ones
unfoldable pub worse_of : Loss → Loss → Loss
worse_of a b = cond (lt_z a.amount b.amount) b a

pub record LossLimits (a : Loss) : Type 0 where
  pub amount : nat_abs a.amount ≤ 2 * (most_flows * unit)

-- the loss of an exposure in a scenario, with the scenario's number
abbrev pub loss_of : Exposure → ℕ → Loss
loss_of e s = record { amount = loss_at flow_value e s; scenario = s }

-- a loss that is one of these
pub record ScenarioLoss (e : Exposure) (w : Loss) : Type 0 where
  pub within : w.scenario < scenario_count e.components
  pub loss : w ≡ loss_of e w.scenario

-- the worst of them
abbrev pub worst_of : Exposure → Loss
worst_of e = loss_of e (worst_at flow_value e)
