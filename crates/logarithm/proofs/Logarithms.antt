-- The rows of logarithms: each loses 32 units more at most.
use mathlib.Core.Path.{◌≡◌}
use Prim.Native.Nat.{ℕ, zero, suc, ◌+◌, ◌*◌, ◌≤◌}
use native.Mathlib.Nat.{mul-zero, add-zero}
use native.Mathlib.Omega.{arith}
use lib.Dec.{lit≤}
use Rattle.discount.specs.Discount.{million}
use Rattle.logarithm.specs.Logarithms.{step, log_of}
use Rattle.logarithm.proofs.Exponents.{Logged}
use Rattle.logarithm.proofs.Ratios.{logged_none, logged-more}
use Rattle.logarithm.proofs.Steps.{step-most, step-least}

pub at_least : (i : ℕ) → 1000000 ≤ million + 2048 * i
unfolding million
at_least i = omega arith

pub log-row : (i : ℕ) → Logged (million + 2048 * i) (log_of i) (32 * i)
unfolding log_of
log-row zero = simp (mul-zero, add-zero) logged_none
log-row (suc i) =
    let m : ℕ = million + 2048 * i in
    let next : Logged (m + 2048) (log_of i + step m 2048) (32 * i + 32) =
    logged-more m (log_of i) (32 * i) 2048 (step m 2048) 32 (log-row i) (step-most m 2048 (at_least i) (lit≤ tt)) (step-least m 2048 (at_least i) (lit≤ tt)) in
    let same : m + 2048 ≡ million + 2048 * suc i = omega arith in
    let sum : 32 * i + 32 ≡ 32 * suc i = omega arith in
    rw (same, sum) at next
