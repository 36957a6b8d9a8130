-- Laws of powers and differences that the native library lacks.
use mathlib.Core.Path.{◌≡◌, sym, ap, ◌∙◌}
use Prim.Native.Nat.{ℕ, zero, suc, ◌-◌, ◌*◌, ◌^◌, ◌≤◌, ◌<◌}
use native.Mathlib.Nat.{mul-zero, mul-suc, mul-sub, mul_comm, mul-mul-mul_comm, pow-zero, pow-suc, pow-lt-pow_left}
use native.Mathlib.Decide.{dec_le}
use native.Mathlib.Omega.{arith}
use lib.Pow.{pow-add}

pub mul-pow : (a b n : ℕ) → (a * b) ^ n ≡ a ^ n * b ^ n
mul-pow a b zero = simp pow-zero
mul-pow a b (suc n) = simp (pow-suc, mul-pow a b n, mul-mul-mul_comm)

pub pow-mul : (a m n : ℕ) → a ^ (m * n) ≡ (a ^ m) ^ n
pow-mul a m zero = simp (mul-zero, pow-zero)
pow-mul a m (suc n) = simp (mul-suc, pow-add, pow-mul a m n, pow-suc)

pub sub-mul : (a b c : ℕ) → (a - b) * c ≡ a * c - b * c
sub-mul a b c = mul_comm (a - b) c ∙ mul-sub c a b ∙ cc (mul_comm a c, mul_comm b c)

-- an order of powers is an order of their bases
pub le-of-pow-le : (a b n : ℕ) → 0 < n → a ^ n ≤ b ^ n → a ≤ b
le-of-pow-le a b n p h =
    elim (dec_le a b) [ yes l ↦ l | no l ↦ absurd (omega (arith, pow-lt-pow_left {a = b} {b = a} {n = n} (omega arith) (omega arith))) ]

pub pow-comm : (a m n : ℕ) → (a ^ m) ^ n ≡ (a ^ n) ^ m
pow-comm a m n = sym (pow-mul a m n) ∙ ap (λ (x : ℕ). a ^ x) (mul_comm m n) ∙ pow-mul a n m
