-- What a leg keeps to.
use Rattle.std.specs.Prelude.{◌≤◌}
use Rattle.ground.specs.Limits.{last_day}
use Rattle.record.specs.Uses.{last_payment_day}
use Rattle.legs.specs.declared.Leg.{Leg}
use Rattle.legs.specs.declared.Legs.{Legs}

-- a leg's flows are few, and all on days in reach
pub record LegLimits (l : Leg) : Type 0 where
  pub few : l.count ≤ 120
  pub reach : last_payment_day l.first l.period l.count ≤ last_day

pub record LegsLimits (l : Legs) : Type 0 where
  pub first : LegLimits l.first
  pub second : LegLimits l.second
  pub payments : LegLimits l.payments
