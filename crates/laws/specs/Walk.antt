-- Walks over the numbers from i on, n of them: what a loop with an index is specified by.
use Rattle.std.specs.Prelude.{List, [], ◌∷◌, ℕ, zero, suc}

-- at each number a step, given what the rest answers: a loop that may stop early
unfoldable pub over : {A : Type 0} → (ℕ → A → A) → A → ℕ → ℕ → A
over step end i zero = end
over step end i (suc n) = step i (over step end (suc i) n)

-- at each number a turn that changes a value: a loop that writes
unfoldable pub run : {A : Type 0} → (ℕ → A → A) → ℕ → ℕ → A → A
run turn i zero x = x
run turn i (suc n) x = run turn (suc i) n (turn i x)

-- f of each number, as a list
unfoldable pub table : {A : Type 0} → (ℕ → A) → ℕ → ℕ → List A
table f i zero = []
table f i (suc n) = f i ∷ table f (suc i) n
