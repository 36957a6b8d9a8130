-- The laws of `All`: joined lists, and lists by index.
use mathlib.Core.List.{List, [], ◌∷◌, ◌++◌}
use Prim.Native.Nat.{ℕ, zero, suc, ◌+◌, ◌≤◌, ◌<◌}
use native.Mathlib.Omega.{arith}
use lib.ListN.{length, get_or}
use Rattle.laws.specs.All.{All}
use Rattle.laws.specs.Walk.{table}

module _ {A : Type 0} (P : A → Type 0) where
  pub all_append : (xs ys : List A) → All P xs → All P ys → All P (xs ++ ys)
  all_append [] ys h g = g
  all_append (x ∷ xs) ys h g = (h.0, all_append xs ys h.1 g)

  pub all-table : (f : ℕ → A) (i n : ℕ) → ((k : ℕ) → i ≤ k → k < i + n → P (f k)) → All P (table f i n)
  unfolding table
  all-table f i zero h = tt
  all-table f i (suc n) h = (h i (omega arith) (omega arith), all-table f (suc i) n (λ k l m. h k (omega arith) (omega arith)))

  pub all_of : (xs : List A) (d : A) → ((i : ℕ) → i < length xs → P (get_or xs i d)) → All P xs
  all_of [] d h = tt
  all_of (x ∷ xs) d h = (h 0 (omega arith), all_of xs d (λ i l. h (suc i) (omega arith)))

-- two facts of each element, as one
pub all_both : {A : Type 0} (P Q R : A → Type 0) → ((x : A) → P x → Q x → R x) → (xs : List A) → All P xs → All Q xs → All R xs
all_both P Q R join [] h g = tt
all_both P Q R join (x ∷ xs) h g = (join x h.0 g.0, all_both P Q R join xs h.1 g.1)
