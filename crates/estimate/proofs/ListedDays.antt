-- The listed days rise, and each has its place among the net amounts.
use mathlib.Core.Bool.{Bool, true, false, cond}
use mathlib.Core.List.{List, [], ◌∷◌}
use Prim.Native.Nat.{ℕ, zero, suc, ◌≤◌, ◌<◌}
use native.Mathlib.Omega.{arith}
use lib.Dec.{eqb}
use lib.IntN.{ℤ, nat_abs}
use lib.ListN.{length, get_or}
use Rattle.laws.specs.All.{All}
use Rattle.netting.specs.Netting.{listed_from, listed}
use Rattle.netting.proofs.DaySums.{listed_below}
use Rattle.estimate.specs.Values.{Listed, Rising}

-- ---- lists that do not fall, from a day on

abbrev RisingFrom : ℕ → List ℕ → Type 0
RisingFrom from [] = Unit {0}
RisingFrom from (d ∷ ds) = (from ≤ d) × RisingFrom d ds

rising-lower : (k m : ℕ) (ds : List ℕ) → k ≤ m → RisingFrom m ds → RisingFrom k ds
rising-lower k m [] l h = tt
rising-lower k m (d ∷ ds) l h = (omega (arith, h.0), h.1)

listed-rising : (i : ℕ) (nets : List ℤ) → RisingFrom i (listed_from i nets)
unfolding listed_from
listed-rising i [] = tt
listed-rising i (x ∷ xs) = go (eqb (nat_abs x) 0) (rising-lower i (suc i) (listed_from (suc i) xs) (omega arith) (listed-rising (suc i) xs))
  where
    go : (t : Bool) → RisingFrom i (listed_from (suc i) xs) → RisingFrom i (cond t (listed_from (suc i) xs) (i ∷ listed_from (suc i) xs))
    go true h = h
    go false h = (omega arith, h)

-- each day is at least the first, and at least those in front of it
rising-at : (k : ℕ) (ds : List ℕ) → RisingFrom k ds → (j : ℕ) → j < length ds → k ≤ get_or ds j 0
rising-at k [] h j l = absurd (omega arith)
rising-at k (d ∷ ds) h zero l = h.0
rising-at k (d ∷ ds) h (suc j) l = rising-at k ds (rising-lower k d ds h.0 h.1) j (omega arith)

rising-order : (k : ℕ) (ds : List ℕ) → RisingFrom k ds → (i j : ℕ) → i ≤ j → j < length ds → get_or ds i 0 ≤ get_or ds j 0
rising-order k [] h i j m l = absurd (omega arith)
rising-order k (d ∷ ds) h zero zero m l = omega arith
rising-order k (d ∷ ds) h zero (suc j) m l = rising-at d ds h.1 j (omega arith)
rising-order k (d ∷ ds) h (suc i) zero m l = absurd (omega arith)
rising-order k (d ∷ ds) h (suc i) (suc j) m l = rising-order d ds h.1 i j (omega arith) (omega arith)

all-at : (P : ℕ → Type 0) (ds : List ℕ) → All P ds → (i : ℕ) → i < length ds → P (get_or ds i 0)
all-at P [] h i l = absurd (omega arith)
all-at P (d ∷ ds) h zero l = h.0
all-at P (d ∷ ds) h (suc i) l = all-at P ds h.1 i (omega arith)

module _ (nets : List ℤ) (days : List ℕ) (s : Listed nets days) where
  pub rising-listed : Rising days
  rising-listed = record { order = rw s.list (rising-order 0 (listed nets) (listed-rising 0 nets)) }

  pub below-listed : (i : ℕ) → i < length days → get_or days i 0 < 10951
  below-listed = rw s.list (all-at (λ d. d < 10951) (listed nets) (rw s.places at (listed_below nets)))
