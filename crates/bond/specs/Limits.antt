-- What a bond's payments and a curve with one node more keep to, so that no sum leaves 64 bits; and what is prepared of them.
use Rattle.std.specs.Prelude.{ℕ, ◌+◌, ◌-◌, ◌*◌, ◌≤◌, ◌<◌, ◌≡◌}
use Rattle.laws.specs.Walk.{table}
use Rattle.ground.specs.Limits.{last_day}
use Rattle.decimal.specs.Product.{unit}
use Rattle.curve.specs.declared.Node.{Node}
use Rattle.curve.specs.declared.Curve.{Curve}
use Rattle.curve.specs.Limits.{NodeLimits, ProperCurve}
use Rattle.curve.specs.Lengthen.{end_day}
use Rattle.curve.specs.Rates.{nodes_of}
use Rattle.legs.specs.declared.Leg.{Leg}
use Rattle.legs.specs.Runs.{flow_of}
use Rattle.bond.specs.declared.value.Extension.{Extension}
use Rattle.bond.specs.Value.{bond_value}

-- 1 to 120 payments on days in reach, none above the largest amount
pub record PaymentLimits (l : Leg) : Type 0 where
  pub some : 1 ≤ l.count
  pub few : l.count ≤ 120
  pub reach : l.first + (l.count - 1) * l.period ≤ last_day
  pub each : l.each ≤ unit
  pub last : l.last ≤ unit

-- n payments of the leg fall up to a day, and no other
pub record PaymentsUpTo (l : Leg) (day n : ℕ) : Type 0 where
  pub most : n ≤ l.count
  pub before : (k : ℕ) → k < n → (flow_of l k).day ≤ day
  pub behind : (k : ℕ) → n ≤ k → k < l.count → day < (flow_of l k).day

-- the node stands behind the curve's last, and the curve has a place for it
pub record Extends (c : Curve) (n : Node) (l : Leg) : Type 0 where
  pub curve : ProperCurve c
  pub place : c.count < 24
  pub node : NodeLimits n
  pub behind : end_day c < n.day
  pub payments : PaymentLimits l

pub record Prepared (e : Extension) : Type 0 where
  pub extends : Extends e.curve e.node e.payments
  pub reached : PaymentsUpTo e.payments (end_day e.curve) e.within
  pub worth : e.known ≡ bond_value (nodes_of e.curve) (table (flow_of e.payments) 0 e.within)
