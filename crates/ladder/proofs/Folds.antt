-- A loop over the flows of a ladder: what it holds is what the flows passed make of what it began with, and has room for the flows that are left.
-- Net amounts, totals and deviations are all held so.
use mathlib.Core.Path.{◌≡◌, refl, sym, ap, ◌∙◌}
use mathlib.Core.List.{List, [], ◌∷◌, foldl}
use Prim.Native.Nat.{ℕ, suc, ◌+◌, ◌*◌, ◌≤◌, ◌<◌}
use native.Mathlib.Nat.{suc-mul, mul-le-mul_right}
use native.Mathlib.Numerals.{add-one}
use native.Mathlib.Omega.{arith}
use lib.ListN.{length}
use Rattle.discount.specs.declared.Flow.{Flow}
use Rattle.discount.specs.Flows.{sum}
use Rattle.legs.specs.declared.Leg.{Leg}
use Rattle.legs.specs.Runs.{flow_of}
use Rattle.legs.specs.Limits.{LegLimits}
use Rattle.ladder.specs.Ladder.{payments, leg_at, ladder_flows, LadderLimits}
use Rattle.ladder.specs.Totals.{FlowLimits, AllFlowLimits, most_flows, RoomFor}
use Rattle.ladder.proofs.LadderFlows.{payment-limits, flows_from, flows-all, flows-end, flows-next, flows-turn}

-- ---- the fold over a ladder's flows by a step; Room is the room for so many flows more

module _ {A : Type 0} (step : A → Flow → A) (Room : ℕ → A → Type 0) (curve : ℕ) (ladder : List ℕ) (schedules : ℕ) where
  -- with the flows before payment k of schedule i in a, those from it on are left
  pub record Folded (a₀ a : A) (i k : ℕ) : Type 0 where
    pub fold : foldl step a₀ (ladder_flows curve ladder schedules) ≡ foldl step a (flows_from curve ladder schedules i k)
    pub room : Room (length (flows_from curve ladder schedules i k)) a

  pub folded-none : (a : A) → Room (length (ladder_flows curve ladder schedules)) a → Folded a a 0 0
  folded-none a k = record { fold = rw (flows-all curve ladder schedules) refl; room = rw (flows-all curve ladder schedules) k }

-- the leg of schedule i
module _ {curve : ℕ} {ladder : List ℕ} {schedules i : ℕ} {leg : Leg} (h : LadderLimits curve ladder schedules) (l : i < schedules) (same : leg ≡ leg_at curve ladder i) where
  pub leg-limits : LegLimits leg
  leg-limits = rw same (h.each i l).days

  count-same : leg.count ≡ payments ladder i
  count-same = ap (λ (x : Leg). x.count) same

  next : {k : ℕ} → k < leg.count → flows_from curve ladder schedules i k ≡ flow_of (leg_at curve ladder i) k ∷ flows_from curve ladder schedules i (suc k)
  next {k} m = flows-next curve ladder schedules i l k (omega (arith, count-same))

  pub flow-limits : {k : ℕ} {f : Flow} → k < leg.count → f ≡ flow_of leg k → FlowLimits f
  flow-limits {k} m e = rw (e, same) (payment-limits (leg_at curve ladder i) k (h.each i l) (omega (arith, count-same)))

  module _ {A : Type 0} {step : A → Flow → A} {Room : ℕ → A → Type 0} {a₀ a : A} {k : ℕ} (w : Folded step Room curve ladder schedules a₀ a i k) where
    -- behind its last payment comes the next leg
    pub folded-turn : k ≤ leg.count → leg.count ≤ k → Folded step Room curve ladder schedules a₀ a (i + 1) 0
    folded-turn few all =
        let e : k ≡ payments ladder i = omega (arith, count-same) in
        let turned : flows_from curve ladder schedules i k ≡ flows_from curve ladder schedules (i + 1) 0 = rw e (flows-turn curve ladder schedules i l) in
        record { fold = rw turned at w.fold; room = rw turned at w.room }

    module _ (m : k < leg.count) where
      pub room-here : Room (suc (length (flows_from curve ladder schedules i (suc k)))) a
      room-here = rw (next m) at w.room

      -- a turn: the flow f of payment k, and the room that is left behind it
      pub folded-next : {f : Flow} {b : A} {Left : ℕ → A → Type 0} → f ≡ flow_of leg k → b ≡ step a f → ((n : ℕ) → Room (suc n) a → Left n b) → Folded step Left curve ladder schedules a₀ b i (k + 1)
      folded-next e q more = rw add-one (record { fold = w.fold ∙ (rw (next m, q, e, same) refl); room = more _ room-here })

pub folded-all : {A : Type 0} {step : A → Flow → A} {Room : ℕ → A → Type 0} {curve : ℕ} {ladder : List ℕ} {schedules i k : ℕ} {a₀ a : A} → Folded step Room curve ladder schedules a₀ a i k → schedules ≤ i → a ≡ foldl step a₀ (ladder_flows curve ladder schedules)
folded-all {curve = curve} {ladder = ladder} {schedules = schedules} {i = i} {k = k} w l = sym (rw (flows-end curve ladder schedules i k l) at w.fold)

-- ---- the fold that adds

pub sum-fold : (v : Flow → ℕ) (n : ℕ) (fs : List Flow) → foldl (λ n f. n + v f) n fs ≡ n + sum v fs
unfolding sum
sum-fold v n [] = omega arith
sum-fold v n (f ∷ fs) = omega (arith, sum-fold v (n + v f) fs)

-- and how much it can be
pub sum-most : (v : Flow → ℕ) (each : ℕ) → ((f : Flow) → FlowLimits f → v f ≤ each) → (fs : List Flow) → AllFlowLimits fs → sum v fs ≤ length fs * each
unfolding sum
sum-most v each h [] s = omega arith
sum-most v each h (f ∷ fs) s = omega (arith, h f s.0, sum-most v each h fs s.1, suc-mul (length fs) each)

-- ---- room for numbers that add up

pub room-less : {each m n size : ℕ} → m ≤ n → RoomFor each n size → RoomFor each m size
room-less {each} h k = record { fits = omega (arith, mul-le-mul_right each h) }

pub room-none : (each : ℕ) {n : ℕ} → n ≤ most_flows → RoomFor each n 0
room-none each h = record { fits = omega (arith, mul-le-mul_right each h) }

pub room_next : {each n size after more : ℕ} → after ≤ size + more → more ≤ each → RoomFor each (suc n) size → RoomFor each n after
room_next {each} {n} h k r = record { fits = omega (arith, suc-mul n each) }
