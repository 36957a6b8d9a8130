-- The legs of a trade that keeps its limits: few flows, on days in reach.
use mathlib.Core.Bool.{Bool}
use Rattle.std.proofs.Common.{Option}
use Rattle.legs.specs.declared.signs.Direction.{Direction}
use Rattle.record.specs.Uses.{has_settled}
use Rattle.trade.specs.declared.Security.{Security}
use Rattle.trade.specs.declared.Security.TheVariants.{Nothing, Single, Coupons, Indexed}
use Rattle.trade.specs.declared.RepoTrade.{RepoTrade}
use Rattle.trade.specs.declared.Trade.{Trade}
use Rattle.trade.specs.declared.Trade.TheVariants.{Outright, Pool, Specified}
use Rattle.legs.specs.declared.Leg.{Leg}
use Rattle.legs.specs.declared.Legs.{Legs}
use Rattle.legs.specs.Runs.{signed_leg}
use Rattle.flows.specs.Legs.{payments_of, outright_legs, repo_legs, legs_of}
use Rattle.flows.specs.Capped.{capped_leg, capped_legs}
use Rattle.flows.specs.Counted.{counted_repo, counted_legs}
use Rattle.flows.specs.Limits.{SecurityLimits, TradeLimits}
use Rattle.legs.specs.Limits.{LegLimits, LegsLimits}
use Rattle.legs.proofs.Reach.{none-reach, one-reach, signed-reach, counted-reach}

payments : (s : Security) → SecurityLimits s → LegLimits (payments_of s)
payments Nothing l = none-reach
payments (Single p) l = one-reach p.curve p.first p.nominal l.reach
payments (Coupons b) l = record { few = l.few; reach = l.reach }
payments (Indexed i) l = record { few = l.bond.few; reach = l.bond.reach }

pub trade-reach : (t : Trade) → TradeLimits t → LegsLimits (legs_of t)
unfolding outright_legs repo_legs
trade-reach (Outright t) h = record {
  first = signed-reach _ _ (one-reach _ _ _ h.valueday1);
  second = none-reach;
  payments = signed-reach _ _ (payments t.security h.security);
}
trade-reach (Pool t) h = record {
  first = signed-reach _ _ (one-reach _ _ _ h.valueday1);
  second = signed-reach _ _ (one-reach _ _ _ h.valueday2);
  payments = signed-reach _ _ (payments t.security h.security);
}
trade-reach (Specified t) h = record {
  first = signed-reach _ _ (one-reach _ _ _ h.valueday1);
  second = signed-reach _ _ (one-reach _ _ _ h.valueday2);
  payments = signed-reach _ _ (payments t.security h.security);
}

-- ---- with the payments that count

repo-reach : (settled : Bool) (t : RepoTrade) (l : Legs) → LegsLimits l → LegsLimits (counted_repo settled t l)
repo-reach settled t l h = record { first = h.first; second = h.second; payments = counted-reach settled t.valueday1 t.valueday2 l.payments h.payments }

pub counted-legs-reach : (t : Trade) → TradeLimits t → LegsLimits (counted_legs t)
counted-legs-reach (Outright t) h = trade-reach (Outright t) h
counted-legs-reach (Pool t) h = repo-reach (has_settled 2 t.phase) t (legs_of (Pool t)) (trade-reach (Pool t) h)
counted-legs-reach (Specified t) h = repo-reach (has_settled 3 t.phase) t (legs_of (Specified t)) (trade-reach (Specified t) h)

-- ---- with their amounts capped

capped-leg-reach : (l : Leg) → LegLimits l → LegLimits (capped_leg l)
capped-leg-reach l h = record { few = h.few; reach = h.reach }

pub payment-reach : (sign : Option Direction) (s : Security) → SecurityLimits s → LegLimits (capped_leg (signed_leg sign (payments_of s)))
payment-reach sign s h = capped-leg-reach (signed_leg sign (payments_of s)) (signed-reach sign (payments_of s) (payments s h))

pub capped-reach : (l : Legs) → LegsLimits l → LegsLimits (capped_legs l)
capped-reach l h = record {
  first = capped-leg-reach l.first h.first;
  second = capped-leg-reach l.second h.second;
  payments = capped-leg-reach l.payments h.payments;
}
