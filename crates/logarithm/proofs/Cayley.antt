-- Powers of (s - 1) / (s + 1): the c-th lies between (s - c) / (s + c) and the same with an s a little larger. With a for s - 1 and p for s - c.
--
use mathlib.Core.Path.{◌≡◌}
use Prim.Native.Nat.{ℕ, zero, suc, ◌+◌, ◌*◌, ◌^◌, ◌≤◌}
use native.Mathlib.Nat.{mul-le-mul_left, mul-le-mul_right, le_of_mul-le-mul_right, pow-zero, pow-suc}
use native.Mathlib.Omega.{arith}

-- ---- one factor more, as polynomials

low-key : (p c : ℕ) → p * (p + c + 2) * (p + 1 + 2 * c) ≤ (p + 2 * c + 2) * (p + c) * (p + 1)
low-key p c = omega arith

high-key : (p c k : ℕ) → c * c + c ≤ k * (p + c + 1 + k)
    → (k + p + 2 * c + 2) * (p + c) * (k + p + 1) ≤ (k + p) * (p + c + 2) * (k + p + 1 + 2 * c)
high-key p c k h = omega arith

-- (s - c) / (s + c) is no more than the power
pub cayley-low : (c p a : ℕ) → a + 1 ≡ p + c → p * (a + 2) ^ c ≤ (p + 2 * c) * a ^ c
cayley-low zero p a e = simp pow-zero (omega arith)
cayley-low (suc c) p a e =
    let same : a ≡ p + c = omega arith in
    let ih : (p + 1) * (a + 2) ^ c ≤ (p + 1 + 2 * c) * a ^ c = cayley-low c (p + 1) a (omega arith) in
    let key : p * (a + 2) * (p + 1 + 2 * c) ≤ (p + 2 * c + 2) * a * (p + 1) = rw same (low-key p c) in
    let scaled : p * ((a + 2) ^ c * (a + 2)) * (p + 1) ≤ (p + 2 * suc c) * (a ^ c * a) * (p + 1) =
    omega (arith, mul-le-mul_left (p * (a + 2)) ih, mul-le-mul_right (a ^ c) key) in
    simp pow-suc (le_of_mul-le-mul_right scaled (omega arith))

-- with s + k for s, where k * (s + k) is at least c * (c + 1), it is no less
pub cayley-high : (c p a k : ℕ) → a + 1 ≡ p + c → c * c + c ≤ k * (a + 1 + k) → (k + p + 2 * c) * a ^ c ≤ (k + p) * (a + 2) ^ c
cayley-high zero p a k e h = simp pow-zero (omega arith)
cayley-high (suc c) p a k e h =
    let same : a ≡ p + c = omega arith in
    let less : c * c + c ≤ k * (a + 1 + k) = omega arith in
    let ih : (k + (p + 1) + 2 * c) * a ^ c ≤ (k + (p + 1)) * (a + 2) ^ c = cayley-high c (p + 1) a k (omega arith) less in
    let key : (k + p + 2 * c + 2) * a * (k + p + 1) ≤ (k + p) * (a + 2) * (k + p + 1 + 2 * c) = rw same (high-key p c k (rw same at less)) in
    let scaled : (k + p + 2 * suc c) * (a ^ c * a) * (k + p + 1) ≤ (k + p) * ((a + 2) ^ c * (a + 2)) * (k + p + 1) =
    omega (arith, mul-le-mul_left ((k + p) * (a + 2)) ih, mul-le-mul_right (a ^ c) key) in
    simp pow-suc (le_of_mul-le-mul_right scaled (omega arith))
