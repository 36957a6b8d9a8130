-- A component's coefficients: their sizes, the middle one, and what the code holds after each operation.
use mathlib.Core.Path.{◌≡◌, refl, sym}
use mathlib.Core.Bool.{Bool, true, false, cond}
use Prim.Native.Nat.{ℕ, ◌-◌, ◌*◌, ◌≤◌, ◌<◌}
use native.Mathlib.Nat.{mul-le-mul_right, le_trans, div-le_of_le-mul, zero-mul, zero-div}
use native.Mathlib.Decide.{dec_le}
use native.Mathlib.Omega.{arith}
use borrow.Author.Tests.{eq-eqb, ne_eqb}
use lib.Dec.{eqb}
use lib.IntN.{ℤ, pos, nat_abs, ◌-ℤ◌, ◌*ℤ◌}
use lib.Signed.{quot_z}
use Rattle.laws.proofs.Signed.{cast, read, cast_is, read_is, abs_neg, abs-mul, abs-mul-le, abs-quot, sub-up, sub-down}
use Rattle.curve.specs.declared.Component.{Component}
use Rattle.curve.specs.Limits.{ComponentLimits}
use Rattle.curve.specs.Scenarios.{coefficient_count, coefficient}

-- j is at most m to either side
step-size : (k m : ℕ) → k ≤ 2 * m → nat_abs (pos k -ℤ pos m) ≤ m
step-size k m h = go (dec_le m k)
  where
    go : Dec (m ≤ k) → nat_abs (pos k -ℤ pos m) ≤ m
    go (yes l) = rw (sub-up k m l) (omega arith)
    go (no l) = rw (sub-down k m (omega arith), abs_neg) (omega arith)

abbrev step : Component → ℕ → ℤ
step x k = pos k -ℤ pos x.steps

abbrev scaled : Component → ℕ → ℤ
scaled x k = step x k *ℤ pos x.range

module _ (x : Component) (k : ℕ) where
  pub coefficient-none : x.steps ≡ 0 → coefficient x k ≡ pos 0
  unfolding coefficient
  coefficient-none e = rw (eq-eqb x.steps 0 e)

  pub coefficient-some : 0 < x.steps → coefficient x k ≡ quot_z (scaled x k) (pos x.steps)
  unfolding coefficient
  coefficient-some h = rw (ne_eqb x.steps 0 (λ e. absurd (omega arith)))

  -- no coefficient goes beyond the range
  pub coefficient-size : k < coefficient_count x → nat_abs (coefficient x k) ≤ x.range
  unfolding coefficient
  coefficient-size h = go (eqb x.steps 0) refl
    where
      go : (t : Bool) → eqb x.steps 0 ≡ t → nat_abs (cond t (pos 0) (quot_z (scaled x k) (pos x.steps))) ≤ x.range
      go true e = omega arith
      go false e =
          rw (abs-quot (scaled x k) (pos x.steps), abs-mul (step x k) (pos x.range))
          (div-le_of_le-mul x.steps (mul-le-mul_right x.range (step-size k x.steps (omega arith))))

-- the middle coefficient is 0
pub coefficient-middle : (x : Component) → coefficient x x.steps ≡ pos 0
unfolding coefficient
coefficient-middle x = go (eqb x.steps 0)
  where
    nothing : (n : ℕ) → n ≡ 0 → quot_z (pos n *ℤ pos x.range) (pos x.steps) ≡ pos 0
    nothing n e = rw (e, zero-mul, zero-div)

    go : (t : Bool) → cond t (pos 0) (quot_z (scaled x x.steps) (pos x.steps)) ≡ pos 0
    go true = refl
    go false = rw (sub-up x.steps x.steps (omega arith)) (nothing (x.steps - x.steps) (omega arith))

module _ (x : Component) (k : ℕ) (h : ComponentLimits x × (k < coefficient_count x)) where
  pub step_fits : nat_abs (step x k) ≤ 3
  step_fits = le_trans (step-size k x.steps (omega arith)) h.0.steps

  pub scaled_fits : nat_abs (scaled x k) ≤ 30000
  scaled_fits = abs-mul-le (step x k) (pos x.range) step_fits h.0.range

  pub coefficient-fits : nat_abs (coefficient x k) ≤ 10000
  coefficient-fits = le_trans (coefficient-size x k h.1) h.0.range

  pub code_step : cast k -ℤ cast x.steps ≡ step x k
  code_step = rw (cast_is k (omega arith), cast_is x.steps (omega arith)) refl

  pub code-scaled : read (cast k -ℤ cast x.steps) *ℤ cast x.range ≡ scaled x k
  code-scaled = rw (code_step, read_is (step x k) (omega (arith, step_fits)), cast_is x.range (omega arith)) refl

  pub code-coefficient
      : 0 < x.steps
      → quot_z (read (read (cast k -ℤ cast x.steps) *ℤ cast x.range)) (cast x.steps) ≡ coefficient x k
  code-coefficient p =
      rw (code-scaled, read_is (scaled x k) (omega (arith, scaled_fits)), cast_is x.steps (omega arith))
      (sym (coefficient-some x k p))
