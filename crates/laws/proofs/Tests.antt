-- What a list of tests says of each of them.
use mathlib.Core.Path.{◌≡◌, refl}
use mathlib.Core.Bool.{Bool, true, ◌&&◌}
use mathlib.Core.List.{List, [], ◌∷◌}
use Prim.Native.Nat.{ℕ, zero, suc}
use lib.ListN.{get_or}
use Rattle.laws.specs.Tests.{all_from, all}
use Rattle.laws.proofs.Bools.{both}

first : (t : Bool) (ts : List Bool) → all_from t ts ≡ true → t ≡ true
first t [] h = h
first t (u ∷ ts) h = (both t u (first (t && u) ts h)).0

from_at : (t : Bool) (ts : List Bool) → all_from t ts ≡ true → (i : ℕ) → get_or (t ∷ ts) i true ≡ true
from_at t ts h zero = first t ts h
from_at t [] h (suc i) = refl
from_at t (u ∷ ts) h (suc zero) = (both t u (first (t && u) ts h)).1
from_at t (u ∷ ts) h (suc (suc i)) = from_at (t && u) ts h (suc i)

-- the test in place i, from 0; on a list that is written out it computes to that test
pub all-at : (ts : List Bool) → all ts ≡ true → (i : ℕ) → get_or ts i true ≡ true
all-at [] h i = refl
all-at (t ∷ ts) h i = from_at t ts h i
