-- The largest number up to a bound that passes a test. It takes as many steps as the bound to compute, so it stays shut: outside this
-- module only its laws are known.
use Rattle.std.specs.Prelude.{◌≡◌, Bool}
use Rattle.std.proofs.Math.Path.{refl}
use Rattle.std.proofs.Math.Bool.{true, false, cond}
use Prim.Native.Nat.{ℕ, zero, suc, ◌≤◌, zero-le}
use Rattle.std.proofs.Math.Nat.{le_refl}
use Rattle.std.proofs.Math.Decide.{ℕ_discrete}
use native.Mathlib.Omega.{arith}
use Rattle.std.proofs.Math.Dec.{T}

-- the largest number up to b that passes the test; 0 if none does
pub greatest : (ℕ → Bool) → ℕ → ℕ
greatest f zero = zero
greatest f (suc b) = cond (f (suc b)) (suc b) (greatest f b)

module _ (f : ℕ → Bool) where
  pub greatest-le : (b : ℕ) → greatest f b ≤ b
  unfolding greatest
  greatest-le zero = zero-le
  greatest-le (suc b) = go (f (suc b)) (greatest-le b)
    where
      go : (t : Bool) → greatest f b ≤ b → cond t (suc b) (greatest f b) ≤ suc b
      go true l = le_refl (suc b)
      go false l = omega arith

  -- it passes the test, where 0 does
  pub greatest-holds : (b : ℕ) → T (f 0) → T (f (greatest f b))
  unfolding greatest
  greatest-holds zero h = h
  greatest-holds (suc b) h = go (f (suc b)) refl (greatest-holds b h)
    where
      go : (t : Bool) → f (suc b) ≡ t → T (f (greatest f b)) → T (f (cond t (suc b) (greatest f b)))
      go true e l = rw e tt
      go false e l = l

  -- whatever passes the test is no larger: so all that is larger fails it
  pub greatest-ge : (b x : ℕ) → x ≤ b → T (f x) → x ≤ greatest f b
  unfolding greatest
  greatest-ge zero x l h = l
  greatest-ge (suc b) x l h = go (f (suc b)) refl (ℕ_discrete x (suc b)) (λ k. greatest-ge b x k h)
    where
      go : (t : Bool) → f (suc b) ≡ t → Dec (x ≡ suc b) → (x ≤ b → x ≤ greatest f b) → x ≤ cond t (suc b) (greatest f b)
      go true e d ih = l
      go false e (yes p) ih = absurd (rw (p, e) at h)
      go false e (no n) ih = ih (omega arith)
