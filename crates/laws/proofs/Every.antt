-- The laws of `every`: those that a loop with an index i and a bound n cites, and what it says of each number.
use mathlib.Core.Path.{◌≡◌, refl, ◌∙◌}
use mathlib.Core.Bool.{Bool, true, false, ◌&&◌}
use Prim.Native.Nat.{ℕ, zero, suc, ◌+◌, ◌-◌, ◌≤◌, ◌<◌}
use native.Mathlib.Decide.{ℕ_discrete}
use native.Mathlib.Omega.{arith}
use Rattle.laws.specs.Walk.{over}
use Rattle.laws.specs.Every.{every}
use Rattle.laws.proofs.Bools.{both}
use Rattle.laws.proofs.Walk.{over-step, over-end}

module _ (f : ℕ → Bool) where
  -- ---- a loop's: its invariant is `whole ≡ every f i (n - i)`

  module _ (i n : ℕ) where
    pub every-step : i < n → every f i (n - i) ≡ f i && every f (i + 1) (n - (i + 1))
    unfolding every
    every-step h = over-step (λ (k : ℕ) (rest : Bool). f k && rest) true i n h

    pub every-passed : i < n → f i ≡ true → every f i (n - i) ≡ every f (i + 1) (n - (i + 1))
    every-passed h e = every-step h ∙ rw e

    pub every-failed : i < n → f i ≡ false → every f i (n - i) ≡ false
    every-failed h e = every-step h ∙ rw e

    pub every-end : n ≤ i → every f i (n - i) ≡ true
    unfolding every
    every-end h = over-end (λ (k : ℕ) (rest : Bool). f k && rest) true i n h

  -- ---- what it says

  pub every-at : (i n : ℕ) → every f i n ≡ true → (k : ℕ) → i ≤ k → k < i + n → f k ≡ true
  unfolding every over
  every-at i zero h k l m = absurd (omega arith)
  every-at i (suc n) h k l m = go (ℕ_discrete k i) (every-at (suc i) n (both (f i) _ h).1 k)
    where
      go : Dec (k ≡ i) → (suc i ≤ k → k < suc i + n → f k ≡ true) → f k ≡ true
      go (yes e) ih = rw e (both (f i) _ h).0
      go (no e) ih = ih (omega arith) (omega arith)

  pub every_of : (i n : ℕ) → ((k : ℕ) → i ≤ k → k < i + n → f k ≡ true) → every f i n ≡ true
  unfolding every over
  every_of i zero h = refl
  every_of i (suc n) h =
      let e : f i ≡ true = h i (omega arith) (omega arith) in
      rw e (every_of (suc i) n (λ k l m. h k (omega arith) (omega arith)))
