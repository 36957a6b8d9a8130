-- The smallest number up to a bound that passes a test. As `greatest` it stays shut: outside this module only its laws are known.
use Rattle.std.specs.Prelude.{◌≡◌, Bool}
use Rattle.std.proofs.Math.Path.{refl}
use Rattle.std.proofs.Common.{sym, ◌∙◌, true≢false}
use Rattle.std.proofs.Math.Bool.{true, false, cond}
use Prim.Native.Nat.{ℕ, zero, suc, ◌+◌, ◌≤◌, ◌<◌}
use Rattle.std.proofs.Math.Decide.{ℕ_discrete}
use native.Mathlib.Omega.{arith}

-- the first of n numbers from i on that passes the test; the number behind them if none does
first_from : (ℕ → Bool) → ℕ → ℕ → ℕ
first_from f i zero = i
first_from f i (suc n) = cond (f i) i (first_from f (suc i) n)

-- the smallest number up to b that passes the test; b if none does
pub smallest : (ℕ → Bool) → ℕ → ℕ
smallest f b = first_from f 0 b

module _ (f : ℕ → Bool) where
  from_le : (i n : ℕ) → first_from f i n ≤ i + n
  unfolding first_from
  from_le i zero = omega arith
  from_le i (suc n) = go (f i) (from_le (suc i) n)
    where
      go : (t : Bool) → first_from f (suc i) n ≤ suc i + n → cond t i (first_from f (suc i) n) ≤ i + suc n
      go true l = omega arith
      go false l = omega arith

  -- whatever passes the test is no smaller, and then the smallest passes it
  from-passes : (i n x : ℕ) → i ≤ x → x ≤ i + n → f x ≡ true → (first_from f i n ≤ x) × (f (first_from f i n) ≡ true)
  unfolding first_from
  from-passes i zero x l m h = let e : x ≡ i = omega arith in (l, rw e at h)
  from-passes i (suc n) x l m h = go (f i) refl (ℕ_discrete i x) (λ k. from-passes (suc i) n x k (omega arith) h)
    where
      go : (t : Bool) → f i ≡ t → Dec (i ≡ x) → (suc i ≤ x → (first_from f (suc i) n ≤ x) × (f (first_from f (suc i) n) ≡ true))
          → (cond t i (first_from f (suc i) n) ≤ x) × (f (cond t i (first_from f (suc i) n)) ≡ true)
      go true e d ih = (l, e)
      go false e (yes p) ih = absurd (true≢false (sym (rw p h) ∙ e))
      go false e (no p) ih = ih (omega arith)

  pub smallest-le : (b : ℕ) → smallest f b ≤ b
  unfolding smallest
  smallest-le b = omega (arith, from_le 0 b)

  -- it passes the test, where the bound does
  pub smallest-holds : (b : ℕ) → f b ≡ true → f (smallest f b) ≡ true
  unfolding smallest
  smallest-holds b h = (from-passes 0 b b (omega arith) (omega arith) h).1

  -- whatever is smaller fails it
  pub smallest-below : (b x : ℕ) → x < smallest f b → f x ≡ false
  unfolding smallest
  smallest-below b x l = go (f x) refl
    where
      go : (t : Bool) → f x ≡ t → f x ≡ false
      go true e = absurd (omega (arith, from_le 0 b, (from-passes 0 b x (omega arith) (omega (arith, from_le 0 b)) e).0))
      go false e = e

  -- a number that passes it, where all that are smaller fail, is the smallest
  pub smallest-is : (b x : ℕ) → x ≤ b → f x ≡ true → ((y : ℕ) → y < x → f y ≡ false) → x ≡ smallest f b
  unfolding smallest
  smallest-is b x l h below = go (ℕ_discrete (first_from f 0 b) x)
    where
      p : (first_from f 0 b ≤ x) × (f (first_from f 0 b) ≡ true)
      p = from-passes 0 b x (omega arith) (omega arith) h

      go : Dec (first_from f 0 b ≡ x) → x ≡ first_from f 0 b
      go (yes e) = sym e
      go (no e) = absurd (true≢false (sym p.1 ∙ below (first_from f 0 b) (omega (arith, p.0))))
