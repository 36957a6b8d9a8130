-- The flows of a ladder: each in its limits, and those from a rung on.
use mathlib.Core.Path.{◌≡◌, refl, ap, ◌∙◌}
use mathlib.Core.Bool.{Bool, true, false, cond}
use mathlib.Core.List.{List, [], ◌∷◌, ◌++◌, flat_map}
use Prim.Native.Nat.{ℕ, zero, suc, ◌+◌, ◌-◌, ◌≤◌, ◌<◌}
use native.Mathlib.Nat.{zero-add}
use native.Mathlib.Omega.{arith}
use borrow.Author.Tests.{eqb-false}
use lib.Dec.{eqb}
use lib.ListN.{get_or, drop, length-append, get_or-append}
use lib.Seq.{drop-nil, drop-cons, drop_at}
use Rattle.laws.specs.Walk.{table}
use Rattle.laws.proofs.All.{all_append, all-table}
use Rattle.laws.proofs.Walk.{get_d-table}
use Rattle.laws.proofs.Tables.{table_step, table-end}
use Rattle.decimal.specs.Product.{unit}
use Rattle.discount.specs.declared.Flow.{Flow}
use Rattle.legs.specs.declared.Leg.{Leg}
use Rattle.legs.specs.Runs.{flow_of, leg_flows}
use Rattle.legs.proofs.Numbered.{length-leg}
use Rattle.legs.proofs.Reach.{span}
use Rattle.ladder.specs.Ladder.{payments, leg_at, ladder_flows, ScheduleLimits, LadderLimits}
use Rattle.ladder.specs.Totals.{FlowLimits, AllFlowLimits}

-- ---- the flows of a leg

pub payment-limits : (l : Leg) (k : ℕ) → ScheduleLimits l → k < l.count → FlowLimits (flow_of l k)
payment-limits l k h m = record { amount = go (eqb (k + 1) l.count) refl; day = span l k h.days m }
  where
    go : (t : Bool) → eqb (k + 1) l.count ≡ t → cond t l.last l.each ≤ unit
    go true e = h.last
    go false e =
        let other : (k + 1 ≡ l.count → ⊥) = eqb-false (k + 1) l.count e in
        h.each (omega (arith, other))

payment-at : (l : Leg) (k : ℕ) (f : Flow) → k < l.count → get_or (leg_flows l) k f ≡ flow_of l k
unfolding leg_flows
payment-at l k f h = get_d-table (flow_of l) 0 l.count k f h ∙ ap (flow_of l) (zero-add k)

leg-limits : (l : Leg) → ScheduleLimits l → AllFlowLimits (leg_flows l)
unfolding leg_flows
leg-limits l h = all-table FlowLimits (flow_of l) 0 l.count (λ k b m. payment-limits l k h (omega arith))

-- ---- those of a ladder

module _ (curve : ℕ) (ladder : List ℕ) where
  limits-from : (i n : ℕ) → ((j : ℕ) → j < i + n → ScheduleLimits (leg_at curve ladder j)) → AllFlowLimits (flat_map leg_flows (table (leg_at curve ladder) i n))
  unfolding table flat_map
  limits-from i zero h = tt
  limits-from i (suc n) h =
      all_append FlowLimits (leg_flows (leg_at curve ladder i)) _ (leg-limits (leg_at curve ladder i) (h i (omega arith)))
      (limits-from (suc i) n (λ j k. h j (omega arith)))

  pub ladder-limits : (schedules : ℕ) → LadderLimits curve ladder schedules → AllFlowLimits (ladder_flows curve ladder schedules)
  unfolding ladder_flows
  ladder-limits schedules h = limits-from 0 schedules (λ j k. h.each j (omega arith))

-- ---- the flows from a payment on: payment k of schedule i

module _ (curve : ℕ) (ladder : List ℕ) (schedules : ℕ) where
  -- of the schedules from i on
  abbrev schedules_from : ℕ → List Flow
  schedules_from i = flat_map leg_flows (table (leg_at curve ladder) i (schedules - i))

  schedules-next : (i : ℕ) → i < schedules → schedules_from i ≡ leg_flows (leg_at curve ladder i) ++ schedules_from (i + 1)
  unfolding flat_map
  schedules-next i h = rw (table_step (leg_at curve ladder) i schedules h) refl

  unfoldable pub flows_from : ℕ → ℕ → List Flow
  flows_from i k = drop k (schedules_from i)

  pub flows-all : flows_from 0 0 ≡ ladder_flows curve ladder schedules
  unfolding flows_from ladder_flows
  flows-all = let e : schedules - 0 ≡ schedules = omega arith in rw e

  pub flows-end : (i k : ℕ) → schedules ≤ i → flows_from i k ≡ []
  unfolding flows_from flat_map
  flows-end i k h = rw (table-end (leg_at curve ladder) i schedules h) (drop-nil k)

  module _ (i : ℕ) (h : i < schedules) where
    abbrev l : Leg
    l = leg_at curve ladder i

    pub flows-next : (k : ℕ) → k < payments ladder i → flows_from i k ≡ flow_of (leg_at curve ladder i) k ∷ flows_from i (suc k)
    unfolding flows_from
    flows-next k m =
        let first : get_or (leg_flows l ++ schedules_from (i + 1)) k (flow_of l k) ≡ flow_of l k = get_or-append (leg_flows l) (schedules_from (i + 1)) (flow_of l k) k (omega (arith, length-leg l)) ∙ payment-at l k (flow_of l k) m in
        rw (schedules-next i h)
        (drop-cons (leg_flows l ++ schedules_from (i + 1)) k (flow_of l k) (omega (arith, length-append (leg_flows l) (schedules_from (i + 1)), length-leg l))
        ∙ ap (λ (g : Flow). g ∷ drop (suc k) (leg_flows l ++ schedules_from (i + 1))) first)

    pub flows-turn : flows_from i (payments ladder i) ≡ flows_from (i + 1) 0
    unfolding flows_from
    flows-turn = rw (schedules-next i h) (drop_at (leg_flows l) (schedules_from (i + 1)) (payments ladder i) (length-leg l))
