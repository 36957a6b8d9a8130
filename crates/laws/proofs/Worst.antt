-- The worst scenario by nearly exact losses is nearly the worst by the exact ones.
use mathlib.Core.Path.{◌≡◌, refl}
use mathlib.Core.Bool.{Bool, true, false, cond}
use mathlib.Core.List.{List, [], ◌∷◌, Memᴰ}
use Prim.Native.Nat.{ℕ, ◌+◌}
use lib.IntN.{ℤ}
use lib.Signed.{lt_z, ◌≤ℤ◌, ◌<ℤ◌, lt_z_yes, lt_z_no, ≤ℤ_refl}
use Rattle.laws.specs.Distance.{Below, Within}
use Rattle.laws.specs.Worst.{worst}
use Rattle.laws.proofs.Integer.{int}

-- ---- the laws of `worst`: it is one of the list, and no other has a larger l

module _ {A : Type 0} (l : A → ℤ) where
  pub worst-in : (a : A) (xs : List A) → Memᴰ (worst l a xs) (a ∷ xs)
  unfolding worst
  worst-in a [] = Memᴰ.head refl
  worst-in a (x ∷ xs) = go (lt_z (l a) (l x)) _ (worst-in (cond (lt_z (l a) (l x)) x a) xs)
    where
      go : (t : Bool) (w : A) → Memᴰ w (cond t x a ∷ xs) → Memᴰ w (a ∷ x ∷ xs)
      go true w m = Memᴰ.tail m
      go false w (Memᴰ.head e) = Memᴰ.head e
      go false w (Memᴰ.tail m) = Memᴰ.tail (Memᴰ.tail m)

  pub worst-all : (a : A) (xs : List A) (s : A) → Memᴰ s (a ∷ xs) → l s ≤ℤ l (worst l a xs)
  unfolding worst
  worst-all a [] s (Memᴰ.head e) = rw e (≤ℤ_refl (l a))
  worst-all a [] s (Memᴰ.tail m) = elim m [ ]
  worst-all a (x ∷ xs) s m =
      go (lt_z (l a) (l x)) refl (worst l (cond (lt_z (l a) (l x)) x a) xs) m
      (worst-all (cond (lt_z (l a) (l x)) x a) xs _ (Memᴰ.head refl)) (worst-all (cond (lt_z (l a) (l x)) x a) xs s)
    where
      go : (t : Bool) → lt_z (l a) (l x) ≡ t → (w : A) → Memᴰ s (a ∷ x ∷ xs) → l (cond t x a) ≤ℤ l w → (Memᴰ s (cond t x a ∷ xs) → l s ≤ℤ l w) → l s ≤ℤ l w
      go true e w (Memᴰ.head p) h k = let less : l a <ℤ l x = lt_z_yes (rw e tt) in rw p (omega int)
      go true e w (Memᴰ.tail m) h k = k m
      go false e w (Memᴰ.head p) h k = rw p h
      go false e w (Memᴰ.tail (Memᴰ.head p)) h k = let less : l x ≤ℤ l a = lt_z_no (rw e tt) in rw p (omega int)
      go false e w (Memᴰ.tail (Memᴰ.tail m)) h k = k (Memᴰ.tail m)

-- ---- l and e are at most t apart on the list

module _ {A : Type 0} (l e : A → ℤ) (t : ℕ) (a : A) (xs : List A) (near : (s : A) → Memᴰ s (a ∷ xs) → Within (l s) (e s) t) where
  -- the largest l and the largest e are too
  pub max-within : Within (l (worst l a xs)) (e (worst e a xs)) t
  max-within =
      omega
      (int, near _ (worst-in l a xs), near _ (worst-in e a xs), worst-all l a xs _ (worst-in e a xs), worst-all e a xs _ (worst-in l a xs))

  -- no scenario's e is above that of the worst by l, by more than twice that
  pub worst-near : (s : A) → Memᴰ s (a ∷ xs) → Below (e s) (e (worst l a xs)) (t + t)
  worst-near s m = omega (int, near s m, near _ (worst-in l a xs), worst-all l a xs s m)
