-- The flows of a ladder with a leg more: those that it had, and then the leg's, as far as they stand on the curve.
use mathlib.Core.Path.{◌≡◌, refl, sym, ap, ◌∙◌}
use mathlib.Core.Bool.{Bool, true, false, not, ◌&&◌, cond}
use mathlib.Core.Logic.{inl}
use mathlib.Core.List.{List, [], ◌++◌, flat_map, append-nil}
use Prim.Native.Nat.{ℕ, ◌+◌, ◌*◌, ◌≤◌, ◌<◌}
use native.Mathlib.Nat.{add-zero, zero-add}
use native.Mathlib.Numerals.{add-one}
use native.Mathlib.Omega.{arith}
use native.Mathlib.Decide.{ℕ_discrete}
use lib.Dec.{eqb, leb, ltb}
use lib.ListN.{length, get_or}
use borrow.Author.Tests.{eqb-true, eqb-false, ltb-false, le-leb, not-true}
use Rattle.laws.specs.Select.{select}
use Rattle.laws.specs.Walk.{table}
use Rattle.laws.proofs.Select.{select-append, select-all, select-none}
use Rattle.laws.proofs.Tables.{table_same, flat-more}
use Rattle.laws.proofs.Bools.{both, neither}
use Rattle.decimal.specs.Product.{unit}
use Rattle.layout.specs.Bytes.{put}
use Rattle.layout.proofs.Bytes.{byte_put, byte-apart}
use Rattle.discount.specs.declared.Flow.{Flow}
use Rattle.legs.specs.declared.Leg.{Leg}
use Rattle.legs.specs.Runs.{flow_of, leg_flows}
use Rattle.flows.specs.Legs.{any_above}
use Rattle.legs.specs.Limits.{LegLimits}
use Rattle.flows.proofs.Above.{any-leg}
use Rattle.ladder.specs.Exposure.{flows_on}
use Rattle.ladder.specs.Ladder.{schedule_of, leg_at, ladder_flows, ScheduleLimits}
use Rattle.exposure.specs.Schedules.{stands_on, with_leg, count_with_leg}
use Rattle.exposure.specs.Growth.{SchedulesInLimits}

-- ---- the flows of a leg that stand on a curve: all of them or none

on-curve : (curve : ℕ) (f : ℕ → Flow) (i n : ℕ) → ((k : ℕ) → eqb (f k).curve curve ≡ true) → flows_on curve (table f i n) ≡ table f i n
unfolding flows_on
on-curve curve f i n h = select-all (λ (x : Flow). eqb x.curve curve) f i n (λ k l m. h k)

off-curve : (curve : ℕ) (f : ℕ → Flow) (i n : ℕ) → ((k : ℕ) → eqb (f k).curve curve ≡ false) → flows_on curve (table f i n) ≡ []
unfolding flows_on
off-curve curve f i n h = select-none (λ (x : Flow). eqb x.curve curve) f i n (λ k l m. h k)

pub on-append : (curve : ℕ) (a b : List Flow) → flows_on curve (a ++ b) ≡ flows_on curve a ++ flows_on curve b
unfolding flows_on
on-append curve a b = select-append (λ (f : Flow). eqb f.curve curve) a b

-- ---- the amounts of a leg none of whose flows is above the largest

pub record Amounts (l : Leg) : Type 0 where
  pub each : 2 ≤ l.count → l.each ≤ unit
  pub last : 1 ≤ l.count → l.last ≤ unit

pub amounts : (l : Leg) → any_above (leg_flows l) ≡ false → Amounts l
amounts l h =
    let parts = neither (leb 1 l.count && ltb unit l.last) (leb 2 l.count && ltb unit l.each) (sym (any-leg l) ∙ h) in
    record {
      each = λ k. ltb-false unit l.each (rw (le-leb 2 l.count k) at parts.1);
      last = λ k. ltb-false unit l.last (rw (le-leb 1 l.count k) at parts.0);
    }

-- ---- the schedule that was written, and those before it

bit-back : (b : Bool) → not (eqb (cond b 1 0) 0) ≡ b
bit-back true = refl
bit-back false = refl

module _ (curve : ℕ) (l : Leg) (ladder : List ℕ) (n : ℕ) (room : n * 6 + 6 ≤ length ladder) where
  abbrev written : List ℕ
  written = put ladder (n * 6) (schedule_of l)

  number : (k : ℕ) → k < 6 → get_or written (n * 6 + k) 0 ≡ get_or (schedule_of l) k 0
  number k h = byte_put ladder (n * 6) (schedule_of l) k room h

  first-is : get_or written (n * 6) 0 ≡ l.first
  first-is = ap (λ (k : ℕ). get_or written k 0) (sym (add-zero (n * 6))) ∙ number 0 (omega arith)

  new-leg : l.curve ≡ curve → leg_at curve written n ≡ l
  new-leg e =
      rw (first-is, number 1 (omega arith), number 2 (omega arith), number 3 (omega arith), number 4 (omega arith), number 5 (omega arith), bit-back l.received, ← e) refl

  old-number : (k : ℕ) → k < n * 6 → get_or written k 0 ≡ get_or ladder k 0
  old-number k h = byte-apart ladder (n * 6) (schedule_of l) k (inl h)

  old-leg : (i : ℕ) → i < n → leg_at curve written i ≡ leg_at curve ladder i
  old-leg i h =
      rw (old-number (i * 6) (omega arith), old-number (i * 6 + 1) (omega arith), old-number (i * 6 + 2) (omega arith), old-number (i * 6 + 3) (omega arith), old-number (i * 6 + 4) (omega arith), old-number (i * 6 + 5) (omega arith)) refl

  -- ---- a leg that stands on the curve adds its flows, any other none

  more : l.curve ≡ curve → ladder_flows curve written (n + 1) ≡ ladder_flows curve ladder n ++ leg_flows l
  unfolding ladder_flows
  more e =
      ap (λ (m : ℕ). flat_map leg_flows (table (leg_at curve written) 0 m)) (add-one n)
      ∙ flat-more (leg_at curve written) leg_flows 0 n
      ∙ ap (λ (ls : List Leg). flat_map leg_flows ls ++ leg_flows (leg_at curve written (0 + n))) (table_same (leg_at curve written) (leg_at curve ladder) 0 0 n (λ k h. old-leg (0 + k) (omega arith)))
      ∙ ap (λ (k : Leg). flat_map leg_flows (table (leg_at curve ladder) 0 n) ++ leg_flows k) (ap (leg_at curve written) (zero-add n) ∙ new-leg e)

  pub push-flows : ladder_flows curve (with_leg curve l ladder n) (count_with_leg curve l n) ≡ ladder_flows curve ladder n ++ flows_on curve (leg_flows l)
  unfolding with_leg count_with_leg leg_flows table flows_on select
  push-flows = go (eqb l.curve curve) (eqb l.count 0) refl refl
    where
      go : (on none : Bool) → eqb l.curve curve ≡ on → eqb l.count 0 ≡ none
          → ladder_flows curve (with_leg curve l ladder n) (count_with_leg curve l n) ≡ ladder_flows curve ladder n ++ flows_on curve (leg_flows l)
      go true false p q =
          rw (p, q, on-curve curve (flow_of l) 0 l.count (λ k. p)) (more (eqb-true l.curve curve p))
      go true true p q =
          rw (p, q, eqb-true l.count 0 q) (sym (append-nil _))
      go false t p q =
          rw (p, off-curve curve (flow_of l) 0 l.count (λ k. p)) (sym (append-nil _))

  -- ---- and a ladder in its limits stays so

  pub push-limits : LegLimits l → Amounts l → SchedulesInLimits curve ladder n → SchedulesInLimits curve (with_leg curve l ladder n) (count_with_leg curve l n)
  unfolding with_leg count_with_leg
  push-limits h a old = go (stands_on curve l) refl
    where
      go : (t : Bool) → stands_on curve l ≡ t → SchedulesInLimits curve (cond t written ladder) (cond t (n + 1) n)
      go false e = old
      go true e = λ i k. last i k (ℕ_discrete i n)
        where
          stands : (eqb l.curve curve ≡ true) × (not (eqb l.count 0) ≡ true)
          stands = both (eqb l.curve curve) (not (eqb l.count 0)) e

          some : l.count ≡ 0 → ⊥
          some = eqb-false l.count 0 (not-true _ stands.1)

          last : (i : ℕ) → i < n + 1 → Dec (i ≡ n) → ScheduleLimits (leg_at curve written i)
          last i k (yes p) =
              rw (p, new-leg (eqb-true l.curve curve stands.0))
              (record { some = omega (arith, some); days = h; each = a.each; last = a.last (omega (arith, some)) })
          last i k (no p) = rw (old-leg i (omega arith)) (old i (omega arith))

  pub push-few : count_with_leg curve l n ≤ n + 1
  unfolding count_with_leg
  push-few = go (stands_on curve l)
    where
      go : (t : Bool) → cond t (n + 1) n ≤ n + 1
      go true = omega arith
      go false = omega arith
