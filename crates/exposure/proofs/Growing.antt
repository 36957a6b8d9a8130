-- Three legs one behind the other: a ladder grows by the flows of a trade.
use mathlib.Core.Path.{◌≡◌, refl, sym, ap, ◌∙◌}
use mathlib.Core.Bool.{Bool, true, false, ◌||◌, cond}
use mathlib.Core.List.{List, ◌++◌, append_assoc}
use Prim.Native.Nat.{ℕ, ◌+◌, ◌*◌, ◌≤◌}
use native.Mathlib.Omega.{arith}
use lib.ListN.{length}
use Rattle.laws.proofs.Bools.{neither}
use Rattle.layout.specs.Bytes.{put}
use Rattle.layout.proofs.Bytes.{length-put}
use Rattle.discount.specs.declared.Flow.{Flow}
use Rattle.legs.specs.declared.Leg.{Leg}
use Rattle.legs.specs.declared.Legs.{Legs}
use Rattle.legs.specs.Runs.{leg_flows, legs_flows}
use Rattle.flows.specs.Legs.{any_above}
use Rattle.flows.proofs.Above.{any-legs}
use Rattle.ladder.specs.Exposure.{flows_on}
use Rattle.ladder.specs.Ladder.{schedule_of, ladder_flows}
use Rattle.exposure.specs.Schedules.{stands_on, with_leg, count_with_leg}
use Rattle.exposure.specs.Growth.{SchedulesInLimits, Grown, LegsSound}
use Rattle.exposure.proofs.Gathered.{on-append, amounts, push-flows, push-limits, push-few}

length-with_leg : (curve : ℕ) (l : Leg) (ladder : List ℕ) (n : ℕ) → length (with_leg curve l ladder n) ≡ length ladder
unfolding with_leg
length-with_leg curve l ladder n = go (stands_on curve l)
  where
    go : (t : Bool) → length (cond t (put ladder (n * 6) (schedule_of l)) ladder) ≡ length ladder
    go true = length-put ladder (n * 6) (schedule_of l)
    go false = refl

-- after a leg, with the count m and the ladder x: what was left of the room is left
pub room-left : (curve : ℕ) (l : Leg) (ladder : List ℕ) (n k : ℕ) {m : ℕ} {x : List ℕ} → m ≡ count_with_leg curve l n → x ≡ with_leg curve l ladder n → n * 6 + 6 + k ≤ length ladder → m * 6 + k ≤ length x
room-left curve l ladder n k e f h =
    omega (arith, push-few curve l ladder n (omega arith), ap length f, length-with_leg curve l ladder n)

module _ (curve : ℕ) (legs : Legs) (ladder : List ℕ) (n : ℕ) (room : n * 6 + 18 ≤ length ladder) (sound : LegsSound legs) where
  within : (any_above (leg_flows legs.first) ≡ false) × (any_above (leg_flows legs.second) ≡ false) × (any_above (leg_flows legs.payments) ≡ false)
  within =
      let outer = neither (any_above (leg_flows legs.first) || any_above (leg_flows legs.second)) (any_above (leg_flows legs.payments)) (sym (any-legs legs) ∙ sound.within) in
      let inner = neither (any_above (leg_flows legs.first)) (any_above (leg_flows legs.second)) outer.0 in
      (inner.0, inner.1, outer.1)

  all-flows : flows_on curve (legs_flows legs) ≡ (flows_on curve (leg_flows legs.first) ++ flows_on curve (leg_flows legs.second)) ++ flows_on curve (leg_flows legs.payments)
  unfolding legs_flows
  all-flows =
      on-append curve (leg_flows legs.first ++ leg_flows legs.second) (leg_flows legs.payments)
      ∙ ap (λ (fs : List Flow). fs ++ flows_on curve (leg_flows legs.payments)) (on-append curve (leg_flows legs.first) (leg_flows legs.second))

  pub grown : {m₁ m₂ m₃ : ℕ} {x₁ x₂ x₃ : List ℕ}
      → m₁ ≡ count_with_leg curve legs.first n → x₁ ≡ with_leg curve legs.first ladder n
      → m₂ ≡ count_with_leg curve legs.second m₁ → x₂ ≡ with_leg curve legs.second x₁ m₁
      → m₃ ≡ count_with_leg curve legs.payments m₂ → x₃ ≡ with_leg curve legs.payments x₂ m₂
      → Grown curve (legs_flows legs) ladder n x₃ m₃
  grown {m₁} {m₂} {m₃} {x₁} {x₂} {x₃} c₁ w₁ c₂ w₂ c₃ w₃ =
      let r₁ : n * 6 + 6 ≤ length ladder = omega arith in
      let r₂ : m₁ * 6 + 12 ≤ length x₁ = room-left curve legs.first ladder n 12 c₁ w₁ (omega arith) in
      let r₃ : m₂ * 6 + 6 ≤ length x₂ = room-left curve legs.second x₁ m₁ 6 c₂ w₂ (omega arith) in
      let s₂ : m₁ * 6 + 6 ≤ length x₁ = omega arith in
      let f₁ : ladder_flows curve x₁ m₁ ≡ ladder_flows curve ladder n ++ flows_on curve (leg_flows legs.first) = rw (c₁, w₁) (push-flows curve legs.first ladder n r₁) in
      let f₂ : ladder_flows curve x₂ m₂ ≡ ladder_flows curve x₁ m₁ ++ flows_on curve (leg_flows legs.second) = rw (c₂, w₂) (push-flows curve legs.second x₁ m₁ s₂) in
      let f₃ : ladder_flows curve x₃ m₃ ≡ ladder_flows curve x₂ m₂ ++ flows_on curve (leg_flows legs.payments) = rw (c₃, w₃) (push-flows curve legs.payments x₂ m₂ r₃) in
      let l₁ : SchedulesInLimits curve ladder n → SchedulesInLimits curve x₁ m₁ = rw (c₁, w₁) (push-limits curve legs.first ladder n r₁ sound.reach.first (amounts _ within.0)) in
      let l₂ : SchedulesInLimits curve x₁ m₁ → SchedulesInLimits curve x₂ m₂ = rw (c₂, w₂) (push-limits curve legs.second x₁ m₁ s₂ sound.reach.second (amounts _ within.1)) in
      let l₃ : SchedulesInLimits curve x₂ m₂ → SchedulesInLimits curve x₃ m₃ = rw (c₃, w₃) (push-limits curve legs.payments x₂ m₂ r₃ sound.reach.payments (amounts _ within.2)) in
      record {
        flows = rw (f₃, f₂, f₁, all-flows) (simp append_assoc);
        limits = λ h. l₃ (l₂ (l₁ h));
        few =
            omega
            (arith, push-few curve legs.first ladder n r₁, push-few curve legs.second x₁ m₁ s₂, push-few curve legs.payments x₂ m₂ r₃);
      }
