-- What the numbers of a trade keep to, where the rules 8, 9 and 10 are not broken: none of its amounts then overflows.
use Rattle.std.specs.Prelude.{ℕ, ◌≤◌, ◌<◌, ◌≡◌, false}
use Rattle.decimal.specs.Product.{unit}
use Rattle.ground.specs.Limits.{last_day}
use Rattle.record.specs.Uses.{last_payment_day}
use Rattle.trade.specs.declared.SinglePayment.{SinglePayment}
use Rattle.trade.specs.declared.CouponBond.{CouponBond}
use Rattle.trade.specs.declared.IndexedBond.{IndexedBond}
use Rattle.trade.specs.declared.Security.{Security}
use Rattle.trade.specs.declared.Security.TheVariants.{Nothing, Single, Coupons, Indexed}
use Rattle.trade.specs.declared.OutrightTrade.{OutrightTrade}
use Rattle.trade.specs.declared.RepoTrade.{RepoTrade}
use Rattle.trade.specs.declared.Trade.{Trade}
use Rattle.trade.specs.declared.Trade.TheVariants.{Outright, Pool, Specified}
use Rattle.flows.specs.Legs.{breaks_flow_limit}

pub record BondLimits (b : CouponBond) : Type 0 where
  pub nominal : b.nominal ≤ unit
  pub coupon : b.coupon ≤ 1000000
  pub few : b.payments ≤ 120
  pub reach : last_payment_day b.first b.period b.payments ≤ last_day

pub record IndexLimits (i : IndexedBond) : Type 0 where
  pub bond : BondLimits i.bond
  pub some : 0 < i.index
  pub index : i.index ≤ 10000000
  pub issued : 0 < i.issue
  pub issue : i.issue ≤ 10000000

pub record SingleLimits (p : SinglePayment) : Type 0 where
  pub nominal : p.nominal ≤ unit
  pub reach : p.first ≤ last_day

abbrev pub SecurityLimits : Security → Type 0
SecurityLimits Nothing = Unit {0}
SecurityLimits (Single p) = SingleLimits p
SecurityLimits (Coupons b) = BondLimits b
SecurityLimits (Indexed i) = IndexLimits i

pub record Sides (side : ℕ) : Type 0 where
  pub low : 1 ≤ side
  pub high : side ≤ 2

pub record OutrightLimits (t : OutrightTrade) : Type 0 where
  pub sides : Sides t.side
  pub valueday1 : t.valueday1 ≤ last_day
  pub price : t.price.0 ≤ 4000000
  pub accrued : t.accrued ≤ 1000000
  pub security : SecurityLimits t.security

pub record RepoLimits (t : RepoTrade) : Type 0 where
  pub sides : Sides t.side
  pub phases : t.phase ≤ 3
  pub valueday1 : t.valueday1 ≤ last_day
  pub valueday2 : t.valueday2 ≤ last_day
  pub cash : t.cash ≤ unit
  pub rate : t.rate ≤ 1000000
  pub term : t.term ≤ 730
  pub security : SecurityLimits t.security

abbrev pub TradeLimits : Trade → Type 0
TradeLimits (Outright t) = OutrightLimits t
TradeLimits (Pool t) = RepoLimits t
TradeLimits (Specified t) = RepoLimits t

-- and rule 12 is not broken either: none of its flows is above the largest amount
pub record SoundTrade (t : Trade) : Type 0 where
  pub limits : TradeLimits t
  pub within : breaks_flow_limit t ≡ false
