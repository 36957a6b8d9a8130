-- The payments that a trade counts as the code has them: those of the leg in the window of its kind and phase.
use Rattle.std.specs.Prelude.{Bool}
use Rattle.record.specs.Uses.{has_settled}
use Rattle.trade.specs.declared.RepoTrade.{RepoTrade}
use Rattle.trade.specs.declared.Trade.{Trade}
use Rattle.trade.specs.declared.Trade.TheVariants.{Outright, Pool, Specified}
use Rattle.legs.specs.declared.Legs.{Legs}
use Rattle.legs.specs.Counted.{counted_leg}
use Rattle.flows.specs.Legs.{legs_of}

-- a repo's legs, with the payments that it counts
abbrev pub counted_repo : Bool → RepoTrade → Legs → Legs
counted_repo settled t l = record {
  first = l.first;
  second = l.second;
  payments = counted_leg settled t.valueday1 t.valueday2 l.payments;
}

abbrev pub counted_legs : Trade → Legs
counted_legs (Outright t) = legs_of (Outright t)
counted_legs (Pool t) = counted_repo (has_settled 2 t.phase) t (legs_of (Pool t))
counted_legs (Specified t) = counted_repo (has_settled 3 t.phase) t (legs_of (Specified t))
