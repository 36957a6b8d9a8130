-- The laws of the walks of specs/Walk.antt that a loop with an index i and a bound n cites.
use mathlib.Core.Path.{◌≡◌, refl, ap, ◌∙◌}
use Prim.Native.Nat.{ℕ, zero, suc, ◌+◌, ◌-◌, ◌≤◌, ◌<◌}
use native.Mathlib.Nat.{add-zero}
use native.Mathlib.Numerals.{add-one}
use native.Mathlib.Decide.{ℕ_discrete}
use native.Mathlib.Omega.{arith}
use lib.ListN.{length, get_or}
use Rattle.laws.specs.Walk.{over, run, table}

-- ---- a loop that may stop early: its invariant is `whole ≡ over step end i (n - i)`

module _ {A : Type 0} (step : ℕ → A → A) (end : A) (i n : ℕ) where
  -- where the walk has something left, it takes a step
  pub over-step : i < n → over step end i (n - i) ≡ step i (over step end (i + 1) (n - (i + 1)))
  unfolding over
  over-step h =
      let e : n - i ≡ suc (n - (i + 1)) = omega arith in
      rw (e, add-one)

  -- and where it has nothing left, it ends
  pub over-end : n ≤ i → over step end i (n - i) ≡ end
  unfolding over
  over-end h =
      let e : n - i ≡ 0 = omega arith in
      rw e

-- ---- a loop that writes: its invariant is `whole ≡ run turn i (n - i) x`

module _ {A : Type 0} (turn : ℕ → A → A) (i n : ℕ) (x : A) where
  pub run_step : i < n → run turn i (n - i) x ≡ run turn (i + 1) (n - (i + 1)) (turn i x)
  unfolding run
  run_step h =
      let e : n - i ≡ suc (n - (i + 1)) = omega arith in
      rw (e, add-one)

  pub run_end : n ≤ i → run turn i (n - i) x ≡ x
  unfolding run
  run_end h =
      let e : n - i ≡ 0 = omega arith in
      rw e

-- ---- what such a loop leaves

module _ {A B : Type 0} (turn : ℕ → A → A) where
  -- what no turn changes is as it was
  pub run-kept : (f : A → B) (i n : ℕ) (x : A) → ((k : ℕ) (y : A) → i ≤ k → k < i + n → f (turn k y) ≡ f y) → f (run turn i n x) ≡ f x
  unfolding run
  run-kept f i zero x same = refl
  run-kept f i (suc n) x same =
      run-kept f (suc i) n (turn i x) (λ k y l h. same k y (omega arith) (omega arith)) ∙ same i x (omega arith) (omega arith)

  -- what turn k makes of g, where no turn before it changes g and none behind it changes f; P holds throughout
  pub run-made : (P : A → Type 0) → ((k : ℕ) (y : A) → P y → P (turn k y)) → (f g : A → B) (k i n : ℕ) (x : A) → P x → i ≤ k → k < i + n
      → ((y : A) → P y → f (turn k y) ≡ g y) → ((q : ℕ) (y : A) → q < k → g (turn q y) ≡ g y) → ((q : ℕ) (y : A) → k < q → f (turn q y) ≡ f y) → f (run turn i n x) ≡ g x
  unfolding run
  run-made P keeps f g k i zero x p l h made before behind = absurd (omega arith)
  run-made P keeps f g k i (suc n) x p l h made before behind =
      go (ℕ_discrete k i) (λ z. run-made P keeps f g k (suc i) n (turn i x) (keeps i x p) (omega arith) (omega arith) made before behind)
    where
      go : Dec (k ≡ i) → ((k ≡ i → ⊥) → f (run turn (suc i) n (turn i x)) ≡ g (turn i x)) → f (run turn (suc i) n (turn i x)) ≡ g x
      go (yes z) later = run-kept f (suc i) n (turn i x) (λ q y b e. behind q y (omega arith)) ∙ (rw z at (made x p))
      go (no z) later = later z ∙ before i x (omega arith)

-- ---- a list by index

module _ {A : Type 0} (f : ℕ → A) where
  pub length-table : (i n : ℕ) → length (table f i n) ≡ n
  unfolding table
  length-table i zero = refl
  length-table i (suc n) = ap suc (length-table (suc i) n)

  pub get_d-table : (i n k : ℕ) (d : A) → k < n → get_or (table f i n) k d ≡ f (i + k)
  unfolding table
  get_d-table i zero k d h = absurd (omega arith)
  get_d-table i (suc n) zero d h = rw add-zero
  get_d-table i (suc n) (suc k) d h = get_d-table (suc i) n k d (omega arith) ∙ ap f (omega arith)
