-- How many payments fall up to a day.
use Prim.Native.Nat.{ℕ, ◌≤◌, ◌<◌}
use native.Mathlib.Nat.{mul-le-mul_right}
use native.Mathlib.Omega.{arith}
use Rattle.std.specs.Prelude.{Option, Some, None, MatchOption, unwrap_or}
use Rattle.legs.specs.declared.Leg.{Leg}
use Rattle.legs.specs.Runs.{flow_of}
use Rattle.bond.specs.Limits.{PaymentsUpTo}

module _ {l : Leg} {day : ℕ} where
  -- up to the first that does not, since no later one does; all, where there is none
  pub first-behind : (r : Option ℕ)
      → MatchOption r ((k : ℕ) → 0 ≤ k → k < l.count → (flow_of l k).day ≤ day) (λ i. (0 ≤ i) × (i < l.count) × (day < (flow_of l i).day) × ((k : ℕ) → 0 ≤ k → k < i → (flow_of l k).day ≤ day))
      → PaymentsUpTo l day (unwrap_or r l.count)
  first-behind None h = record { most = omega arith; before = λ i b. h i (omega arith) b; behind = λ i a b. absurd (omega arith) }
  first-behind (Some n) h =
      record {
        most = omega arith;
        before = λ i b. h.3 i (omega arith) b;
        behind = λ i a b. omega (arith, h.2, mul-le-mul_right l.period a);
      }
