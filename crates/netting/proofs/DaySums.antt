-- Sums over all days: those without a net amount add nothing, so they are the sums over the listed days; and a change of one day's net
-- amount moves them by no more than that day's.
use mathlib.Core.Path.{◌≡◌, refl, sym, ◌∙◌}
use mathlib.Core.Bool.{Bool, true, false, cond}
use mathlib.Core.List.{List, [], ◌∷◌}
use Prim.Native.Nat.{ℕ, zero, suc, ◌+◌, ◌≤◌, ◌<◌}
use native.Mathlib.Nat.{add-zero, zero-add}
use native.Mathlib.Omega.{arith}
use lib.Dec.{eqb}
use lib.IntN.{ℤ, pos, negsuc, nat_abs, ◌+ℤ◌, +ℤ_idl}
use lib.ListN.{length, set, replicate}
use borrow.Author.Tests.{eqb-true}
use Rattle.laws.specs.All.{All}
use Rattle.laws.specs.Distance.{Within}
use Rattle.laws.proofs.Integer.{int, plus}
use Rattle.netting.specs.Netting.{net_on, listed_from, listed, worth, net_value, net_size}
use Rattle.netting.proofs.Worths.{none-worth}

-- ---- the listed days of the net amounts from day i on

data Listing : ℕ → List ℤ → List ℕ → Type 0 where
  end : {i : ℕ} → Listing i [] []
  skip : {i : ℕ} {xs : List ℤ} {ds : List ℕ} → Listing (suc i) xs ds → Listing i (pos 0 ∷ xs) ds
  keep : {i : ℕ} {x : ℤ} {xs : List ℤ} {ds : List ℕ} → Listing (suc i) xs ds → Listing i (x ∷ xs) (i ∷ ds)

listing : (i : ℕ) (xs : List ℤ) → Listing i xs (listed_from i xs)
unfolding listed_from
listing i [] = end
listing i (x ∷ xs) = go x (eqb (nat_abs x) 0) refl (listing (suc i) xs)
  where
    go : (x : ℤ) (t : Bool) → eqb (nat_abs x) 0 ≡ t → Listing (suc i) xs (listed_from (suc i) xs)
        → Listing i (x ∷ xs) (cond t (listed_from (suc i) xs) (i ∷ listed_from (suc i) xs))
    go x false e l = keep l
    go (pos n) true e l = let z : n ≡ 0 = eqb-true n 0 e in rw z (skip l)
    go (negsuc n) true e l = let z : suc n ≡ 0 = eqb-true (suc n) 0 e in absurd (omega arith)

below : {i : ℕ} {xs : List ℤ} {ds : List ℕ} (n : ℕ) → i + length xs ≤ n → Listing i xs ds → All (λ d. d < n) ds
below n h end = tt
below n h (skip l) = below n (omega arith) l
below n h (keep l) = (omega arith, below n (omega arith) l)

few : {i : ℕ} {xs : List ℤ} {ds : List ℕ} → Listing i xs ds → length ds ≤ length xs
few end = omega arith
few (skip l) = omega (arith, few l)
few (keep l) = omega (arith, few l)

-- every listed day is one of the days, and there are no more of them
pub listed_below : (nets : List ℤ) → All (λ d. d < length nets) (listed nets)
listed_below nets = below (length nets) (omega arith) (listing 0 nets)

-- ---- sums over all days

-- the net amounts xs stand in nets from day i on
record From (nets : List ℤ) (i : ℕ) (xs : List ℤ) : Type 0 where
  at : (k : ℕ) → net_on nets (i + k) ≡ net_on xs k

from_all : (nets : List ℤ) → From nets 0 nets
from_all nets = record { at = λ k. rw zero-add refl }

from_next : {nets : List ℤ} {i : ℕ} {x : ℤ} {xs : List ℤ} → From nets i (x ∷ xs) → From nets (suc i) xs
from_next {i = i} h = record { at = λ k. let e : suc i + k ≡ i + suc k = omega arith in rw e (h.at (suc k)) }

from_first : {nets : List ℤ} {i : ℕ} {x : ℤ} {xs : List ℤ} → From nets i (x ∷ xs) → net_on nets i ≡ x
from_first h = rw add-zero at (h.at 0)

-- what the net amounts from day i on are worth
unfoldable pub days_worth : (ℕ → ℕ) → ℕ → List ℤ → ℤ
days_worth c i [] = pos 0
days_worth c i (x ∷ xs) = worth (c i) x +ℤ days_worth c (suc i) xs

-- and how much they are
unfoldable pub days_size : List ℤ → ℕ
days_size [] = 0
days_size (x ∷ xs) = nat_abs x + days_size xs

worth-over : (c : ℕ → ℕ) (nets : List ℤ) {i : ℕ} {xs : List ℤ} {ds : List ℕ} → From nets i xs → Listing i xs ds → net_value c nets ds ≡ days_worth c i xs
unfolding days_worth net_value
worth-over c nets h end = refl
worth-over c nets h (skip l) = rw (none-worth, worth-over c nets (from_next h) l) (sym (+ℤ_idl _))
worth-over c nets h (keep l) = rw (from_first h, worth-over c nets (from_next h) l) refl

size-over : (nets : List ℤ) {i : ℕ} {xs : List ℤ} {ds : List ℕ} → From nets i xs → Listing i xs ds → net_size nets ds ≡ days_size xs
unfolding days_size net_size
size-over nets h end = refl
size-over nets h (skip l) = size-over nets (from_next h) l ∙ sym (zero-add _)
size-over nets h (keep l) = rw (from_first h, size-over nets (from_next h) l) refl

pub listed-worth : (c : ℕ → ℕ) (nets : List ℤ) → net_value c nets (listed nets) ≡ days_worth c 0 nets
listed-worth c nets = worth-over c nets (from_all nets) (listing 0 nets)

pub listed-size : (nets : List ℤ) → net_size nets (listed nets) ≡ days_size nets
listed-size nets = size-over nets (from_all nets) (listing 0 nets)

-- ---- none at first

pub none-days : (c : ℕ → ℕ) (i n : ℕ) → days_worth c i (replicate n (pos 0)) ≡ pos 0
unfolding days_worth
none-days c i zero = refl
none-days c i (suc n) = rw (none-worth, none-days c (suc i) n) refl

pub none-size : (n : ℕ) → days_size (replicate n (pos 0)) ≡ 0
unfolding days_size
none-size zero = refl
none-size (suc n) = omega (arith, none-size n)

-- ---- a day's net amount is now y

-- worth v more, within t: so are all
pub days-changed : (c : ℕ → ℕ) (i : ℕ) (xs : List ℤ) (d : ℕ) (y v : ℤ) (t : ℕ) → d < length xs
    → Within (worth (c (i + d)) y) (worth (c (i + d)) (net_on xs d) +ℤ v) t → Within (days_worth c i (set xs d y)) (days_worth c i xs +ℤ v) t
unfolding days_worth
days-changed c i [] d y v t l h = absurd (omega arith)
days-changed c i (x ∷ xs) zero y v t l h =
    let w = rw add-zero at h in
    let rest = days_worth c (suc i) xs in
    omega (int, w, plus (worth (c i) x) v, plus (worth (c i) y) rest, plus (worth (c i) x) rest, plus (worth (c i) x +ℤ rest) v)
days-changed c i (x ∷ xs) (suc d) y v t l h =
    let e : i + suc d ≡ suc i + d = omega arith in
    let was = days_worth c (suc i) xs in
    let is = days_worth c (suc i) (set xs d y) in
    let w = days-changed c (suc i) xs d y v t (omega arith) (rw e at h) in
    omega (int, w, plus (worth (c i) x) is, plus (worth (c i) x) was, plus was v, plus (worth (c i) x +ℤ was) v)

pub size-changed : (xs : List ℤ) (d : ℕ) (y : ℤ) (t : ℕ) → nat_abs y ≤ nat_abs (net_on xs d) + t → days_size (set xs d y) ≤ days_size xs + t
unfolding days_size
size-changed [] d y t h = omega arith
size-changed (x ∷ xs) zero y t h = omega arith
size-changed (x ∷ xs) (suc d) y t h = omega (arith, size-changed xs d y t h)
