-- A trade's legs with the payments that count have its flows.
use mathlib.Core.Path.{◌≡◌, sym, ap, ◌∙◌}
use mathlib.Core.Bool.{Bool, true, false}
use mathlib.Core.List.{List, ◌++◌}
use Prim.Native.Nat.{ℕ, ◌<◌}
use native.Mathlib.Omega.{arith}
use lib.Dec.{leb, ltb}
use Rattle.std.proofs.Common.{Option, Some, None}
use Rattle.legs.specs.declared.signs.Direction.{Direction}
use Rattle.legs.specs.declared.signs.Direction.TheVariants.{In, Out}
use Rattle.laws.specs.Select.{select}
use Rattle.laws.proofs.Select.{select-both, select-whole}
use Rattle.discount.specs.declared.Flow.{Flow}
use Rattle.record.specs.Uses.{has_settled}
use Rattle.trade.specs.declared.Security.{Security}
use Rattle.trade.specs.declared.Security.TheVariants.{Nothing, Single, Coupons, Indexed}
use Rattle.trade.specs.declared.RepoTrade.{RepoTrade}
use Rattle.trade.specs.declared.Trade.{Trade}
use Rattle.trade.specs.declared.Trade.TheVariants.{Outright, Pool, Specified}
use Rattle.legs.specs.declared.Leg.{Leg}
use Rattle.flows.specs.Window.{in_repo_window}
use Rattle.legs.specs.Runs.{no_leg, directed, signed_leg, leg_flows, legs_flows}
use Rattle.flows.specs.Legs.{payments_of, first_payment_of, legs_of, flows_of}
use Rattle.legs.specs.Counted.{leg_after, leg_up_to, counted_leg}
use Rattle.flows.specs.Counted.{counted_legs}
use Rattle.legs.proofs.Counted.{after_flows, up-to-flows, after_none, up-to-none, none-in-term}

-- ---- a trade's legs with the payments that count have its flows

counted-flows : (settled : Bool) (t : RepoTrade) (l : Leg) → leg_flows (counted_leg settled t.valueday1 t.valueday2 l) ≡ select (λ (f : Flow). in_repo_window settled t f.day) (leg_flows l)
counted-flows true t l = after_flows t.valueday2 l
counted-flows false t l =
    up-to-flows t.valueday2 (leg_after t.valueday1 l)
    ∙ ap (select (λ (f : Flow). leb f.day t.valueday2)) (after_flows t.valueday1 l)
    ∙ select-both (λ (f : Flow). ltb t.valueday1 f.day) (λ (f : Flow). leb f.day t.valueday2) (leg_flows l)

pub flows-counted : (t : Trade) → legs_flows (counted_legs t) ≡ flows_of t
unfolding legs_flows flows_of
flows-counted (Outright t) =
    let l = legs_of (Outright t) in
    ap (λ (fs : List Flow). leg_flows l.first ++ leg_flows l.second ++ fs) (sym (select-whole (leg_flows l.payments)))
flows-counted (Pool t) =
    let l = legs_of (Pool t) in
    ap (λ (fs : List Flow). leg_flows l.first ++ leg_flows l.second ++ fs) (counted-flows (has_settled 2 t.phase) t l.payments)
flows-counted (Specified t) =
    let l = legs_of (Specified t) in
    ap (λ (fs : List Flow). leg_flows l.first ++ leg_flows l.second ++ fs) (counted-flows (has_settled 3 t.phase) t l.payments)

-- ---- of payments that all come behind the term none counts before the first leg has settled

first-day : (s : Security) (day : ℕ) → day < first_payment_of s → day < (payments_of s).first
first-day Nothing day h = absurd (omega arith)
first-day (Single p) day h = h
first-day (Coupons b) day h = h
first-day (Indexed i) day h = h

pub all-behind : (sign : Option Direction) (s : Security) (valueday1 valueday2 : ℕ) → valueday2 < first_payment_of s → counted_leg false valueday1 valueday2 (signed_leg sign (payments_of s)) ≡ no_leg
unfolding signed_leg
all-behind None s valueday1 valueday2 h = ap (leg_up_to valueday2) (after_none valueday1) ∙ up-to-none valueday2
all-behind (Some In) s valueday1 valueday2 h = none-in-term valueday1 valueday2 (directed true (payments_of s)) (first-day s valueday2 h)
all-behind (Some Out) s valueday1 valueday2 h = none-in-term valueday1 valueday2 (directed false (payments_of s)) (first-day s valueday2 h)
