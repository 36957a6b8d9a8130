-- The flows of an accepted record: few, none above the largest amount, all on days in reach and on curves of the book.
use mathlib.Core.Path.{◌≡◌, subst}
use mathlib.Core.Bool.{false}
use mathlib.Core.List.{List, [], ◌∷◌, ◌++◌}
use Prim.Native.Nat.{ℕ, ◌≤◌, ◌<◌}
use native.Mathlib.Omega.{arith}
use lib.Dec.{ltb}
use Rattle.std.proofs.Common.{Option, Some, None}
use Rattle.legs.specs.declared.signs.Direction.{Direction}
use Rattle.legs.specs.declared.signs.Direction.TheVariants.{In, Out}
use lib.ListN.{length, length-append}
use borrow.Author.Tests.{ltb-false}
use Rattle.std.specs.Prelude.{Ok}
use Rattle.laws.specs.All.{All}
use Rattle.laws.proofs.All.{all_append, all-table, all_both}
use Rattle.laws.proofs.Bools.{neither}
use Rattle.laws.proofs.Select.{select-few, select-each}
use Rattle.decimal.specs.Product.{unit}
use Rattle.discount.specs.declared.Flow.{Flow}
use Rattle.ground.specs.Limits.{last_day}
use Rattle.ground.proofs.Verdicts.{unbroken}
use Rattle.record.specs.declared.Curves.{Curves}
use Rattle.record.specs.declared.Fields.{Fields}
use Rattle.record.specs.Rules.{breaks_form, breaks_days, breaks_amounts, breaks_currency}
use Rattle.record.proofs.Limits.{InLimits}
use Rattle.record.proofs.Facts.{Kind, outright, pool, specified}
use Rattle.trade.specs.Read.{security_of, outright_of, repo_of, trade_of}
use Rattle.trade.specs.declared.Trade.{Trade}
use Rattle.trade.specs.declared.Trade.TheVariants.{Outright, Pool, Specified}
use Rattle.legs.specs.declared.signs.Signs.{Signs}
use Rattle.legs.specs.declared.Leg.{Leg}
use Rattle.legs.specs.declared.Legs.{Legs}
use Rattle.legs.specs.Signs.{signs_of}
use Rattle.flows.specs.Window.{in_window}
use Rattle.legs.specs.Runs.{one_flow, signed_leg, flow_of, leg_flows}
use Rattle.flows.specs.Legs.{payments_of, outright_legs, repo_legs, legs_of, payment_flows, flows_of, any_above, breaks_flow_limit}
use Rattle.legs.specs.Limits.{LegLimits}
use Rattle.flows.specs.Limits.{SoundTrade}
use Rattle.flows.specs.Verdict.{record_rules, record_verdict}
use Rattle.flows.proofs.Accepted.{SoundRecord, sound-record, payments-told, trade-limits, by_kind}
use Rattle.legs.proofs.Numbered.{length-leg}
use Rattle.flows.proofs.Reach.{trade-reach}
use Rattle.legs.proofs.Reach.{span}

-- ---- from the verdict

pub record AcceptedRecord (curves : Curves) (f : Fields) : Type 0 where
  pub sound : SoundRecord curves f
  pub form : breaks_form curves f.form ≡ false
  pub days : breaks_days f.form f.days ≡ false
  pub amounts : breaks_amounts f.form f.days f.amounts ≡ false
  pub currency : breaks_currency curves f.form ≡ false
  pub trade : SoundTrade (trade_of f)

pub accepted : (curves : Curves) (f : Fields) (block : ℕ) → record_verdict curves f block ≡ Ok tt → AcceptedRecord curves f
unfolding record_verdict
accepted curves f block h =
    let kept = unbroken block (record_rules curves f) h in
    let all = sound-record curves f (kept 0) (kept 1) (kept 2) in
    record {
      sound = all;
      form = kept 0;
      days = kept 1;
      amounts = kept 2;
      currency = kept 3;
      trade = record { limits = trade-limits f all; within = kept 4 };
    }

-- ---- amounts

abbrev Small : Flow → Type 0
Small f = f.amount ≤ unit

all-below : (fs : List Flow) → any_above fs ≡ false → All Small fs
unfolding any_above
all-below [] h = tt
all-below (f ∷ fs) h =
    let p = neither (ltb unit f.amount) (any_above fs) h in (ltb-false unit f.amount p.0, all-below fs p.1)

-- ---- days and curves

-- a leg that has flows stands on a curve of the book
abbrev Held : ℕ → Leg → Type 0
Held count l = 0 < l.count → InLimits 1 l.curve count

record Placed (count : ℕ) (f : Flow) : Type 0 where
  day : f.day ≤ last_day
  curve : InLimits 1 f.curve count

leg-placed : (count : ℕ) (l : Leg) → LegLimits l → Held count l → All (Placed count) (leg_flows l)
unfolding leg_flows
leg-placed count l h g = all-table (Placed count) (flow_of l) 0 l.count (λ k a b. record { day = span l k h (omega arith); curve = g (omega arith) })

signed-held : (count : ℕ) (sign : Option Direction) (l : Leg) → Held count l → Held count (signed_leg sign l)
unfolding signed_leg
signed-held count None l h = λ some. absurd (omega arith)
signed-held count (Some In) l h = h
signed-held count (Some Out) l h = h

record LegsHeld (count : ℕ) (l : Legs) : Type 0 where
  first : Held count l.first
  second : Held count l.second
  payments : Held count l.payments

module _ {curves : Curves} (f : Fields) (r : SoundRecord curves f) where
  payments-held : (sign : Option Direction) → Held curves.count (signed_leg sign (payments_of (security_of f)))
  payments-held sign =
      signed-held curves.count sign (payments_of (security_of f))
      (λ some. let told = payments-told f r some in rw told.1.0 (r.form.held told.0))

  cash-held : (sign : Option Direction) (day amount : ℕ) → Held curves.count (signed_leg sign (one_flow f.form.cashcurve day amount))
  cash-held sign day amount =
      signed-held curves.count sign (one_flow f.form.cashcurve day amount) (λ some. r.form.cash)

  bought-held : (s : Signs) → LegsHeld curves.count (outright_legs s (outright_of f))
  unfolding outright_legs
  bought-held s = record {
    first = cash-held s.first _ _;
    second = λ some. absurd (omega arith);
    payments = payments-held s.payments;
  }

  lent-held : (s : Signs) → LegsHeld curves.count (repo_legs s (repo_of f))
  unfolding repo_legs
  lent-held s = record { first = cash-held s.first _ _; second = cash-held s.second _ _; payments = payments-held s.payments }

  legs-held : Kind f.form → LegsHeld curves.count (legs_of (trade_of f))
  legs-held (outright kind phase) =
      subst (λ (t : Trade). LegsHeld curves.count (legs_of t)) (by_kind f r 1 kind) (bought-held (signs_of 1 0 f.form.side))
  legs-held (pool kind phase) =
      subst (λ (t : Trade). LegsHeld curves.count (legs_of t)) (by_kind f r 2 kind) (lent-held (signs_of 2 f.form.phase f.form.side))
  legs-held (specified kind phase) =
      subst (λ (t : Trade). LegsHeld curves.count (legs_of t)) (by_kind f r 3 kind) (lent-held (signs_of 3 f.form.phase f.form.side))

-- ---- all of it

pub record FlowBounds (count : ℕ) (f : Flow) : Type 0 where
  pub amount : f.amount ≤ unit
  pub day : f.day ≤ last_day
  pub curve : InLimits 1 f.curve count

pub flows-bounded : {curves : Curves} (f : Fields) → AcceptedRecord curves f → All (FlowBounds curves.count) (flows_of (trade_of f))
unfolding breaks_flow_limit flows_of
flows-bounded {curves} f a =
    let t = trade_of f in
    let l = legs_of t in
    let reach = trade-reach t a.trade.limits in
    let held = legs-held f a.sound a.sound.form.kinds in
    let P = Placed curves.count in
    let placed = all_append P (leg_flows l.first ++ leg_flows l.second) (payment_flows t)
    (all_append P (leg_flows l.first) (leg_flows l.second)
    (leg-placed curves.count l.first reach.first held.first)
    (leg-placed curves.count l.second reach.second held.second))
    (select-each (λ (x : Flow). in_window t x.day) P (leg_flows l.payments) (leg-placed curves.count l.payments reach.payments held.payments)) in
    all_both Small P (FlowBounds curves.count) (λ x small at. record { amount = small; day = at.day; curve = at.curve }) (flows_of t) (all-below (flows_of t) a.trade.within) placed

-- ---- how many there are

signed-count : (sign : Option Direction) (l : Leg) → (signed_leg sign l).count ≤ l.count
unfolding signed_leg
signed-count None l = omega arith
signed-count (Some In) l = omega arith
signed-count (Some Out) l = omega arith

-- a trade has a first leg and a second of one flow each at most
cash-few : (t : Trade) → ((legs_of t).first.count ≤ 1) × ((legs_of t).second.count ≤ 1)
unfolding outright_legs repo_legs
cash-few (Outright t) = (signed-count _ _, omega arith)
cash-few (Pool t) = (signed-count _ _, signed-count _ _)
cash-few (Specified t) = (signed-count _ _, signed-count _ _)

pub flows-few : {curves : Curves} (f : Fields) → AcceptedRecord curves f → length (flows_of (trade_of f)) ≤ 122
unfolding flows_of
flows-few f a =
    let t = trade_of f in
    let l = legs_of t in
    let cash = cash-few t in
    omega
    (arith, length-append (leg_flows l.first ++ leg_flows l.second) (payment_flows t), length-append (leg_flows l.first) (leg_flows l.second), length-leg l.first, length-leg l.second, length-leg l.payments, select-few (λ (x : Flow). in_window t x.day) (leg_flows l.payments), (trade-reach t a.trade.limits).payments.few)
