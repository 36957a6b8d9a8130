-- The laws of `first_of`: those that a loop with an index i and a bound n cites, and what it says of each number.
use mathlib.Core.Path.{◌≡◌, refl, ◌∙◌}
use Prim.Native.Nat.{ℕ, zero, suc, ◌+◌, ◌-◌, ◌≤◌, ◌<◌}
use native.Mathlib.Decide.{ℕ_discrete}
use native.Mathlib.Omega.{arith}
use Rattle.std.specs.Prelude.{Ok, Err}
use Rattle.ground.specs.declared.Refusal.{Refusal}
use Rattle.laws.specs.Walk.{over}
use Rattle.laws.proofs.Walk.{over-step, over-end}
use Rattle.ground.specs.Verdicts.{Verdict, or_else}
use Rattle.ground.proofs.Verdicts.{or_else-accepted, passes, stops}
use Rattle.book.specs.Verdict.{first_of}

module _ (f : ℕ → Verdict) where
  -- ---- a loop's: its invariant is `whole ≡ first_of f i (n - i)`

  module _ (i n : ℕ) where
    first_step : i < n → first_of f i (n - i) ≡ or_else (f i) (first_of f (i + 1) (n - (i + 1)))
    unfolding first_of
    first_step h = over-step (λ (k : ℕ) (next : Verdict). or_else (f k) next) (Ok tt) i n h

    pub first-passed : i < n → f i ≡ Ok tt → first_of f i (n - i) ≡ first_of f (i + 1) (n - (i + 1))
    first-passed h e = first_step h ∙ passes _ e

    pub first-stopped : {r : Refusal} → i < n → f i ≡ Err r → first_of f i (n - i) ≡ Err r
    first-stopped h e = first_step h ∙ stops _ e

    pub first-end : n ≤ i → first_of f i (n - i) ≡ Ok tt
    unfolding first_of
    first-end h = over-end (λ (k : ℕ) (next : Verdict). or_else (f k) next) (Ok tt) i n h

  -- ---- what it says

  pub first-at : (i n : ℕ) → first_of f i n ≡ Ok tt → (k : ℕ) → i ≤ k → k < i + n → f k ≡ Ok tt
  unfolding first_of over
  first-at i zero h k l m = absurd (omega arith)
  first-at i (suc n) h k l m = go (ℕ_discrete k i) (first-at (suc i) n (or_else-accepted (f i) _ tt h).1 k)
    where
      go : Dec (k ≡ i) → (suc i ≤ k → k < suc i + n → f k ≡ Ok tt) → f k ≡ Ok tt
      go (yes e) ih = rw e (or_else-accepted (f i) _ tt h).0
      go (no e) ih = ih (omega arith) (omega arith)

  pub first-of : (i n : ℕ) → ((k : ℕ) → i ≤ k → k < i + n → f k ≡ Ok tt) → first_of f i n ≡ Ok tt
  unfolding first_of over
  first-of i zero h = refl
  first-of i (suc n) h =
      let e : f i ≡ Ok tt = h i (omega arith) (omega arith) in
      rw e (first-of (suc i) n (λ k l m. h k (omega arith) (omega arith)))
