-- A node's shifted rate: what the code holds after each operation, with its size.
use mathlib.Core.Path.{◌≡◌, refl}
use Prim.Native.Nat.{◌*◌, ◌≤◌}
use native.Mathlib.Nat.{div-le_self, le_trans}
use native.Mathlib.Omega.{arith}
use lib.IntN.{ℤ, pos, nat_abs, ◌+ℤ◌, ◌*ℤ◌}
use lib.Signed.{quot_z}
use Rattle.laws.proofs.Signed.{cast, read, cast_is, read_is, abs-add, abs-mul-le, abs-quot}
use Rattle.curve.specs.declared.Node.{Node}
use Rattle.curve.specs.declared.Scenario.{Scenario}
use Rattle.curve.specs.Limits.{NodeLimits, ScenarioLimits}
use Rattle.curve.specs.Stress.{shifted}

code-term : (y z : ℤ) → nat_abs y ≤ 10000 → nat_abs z ≤ 1000000 → read y *ℤ read z ≡ y *ℤ z
code-term y z p q = rw (read_is y (omega arith), read_is z (omega arith)) refl

module _ (n : Node) (s : Scenario) where
  -- the sum of two and of three coefficients × components
  abbrev two : ℤ
  two = s.first *ℤ n.first +ℤ s.second *ℤ n.second

  abbrev three : ℤ
  three = two +ℤ s.third *ℤ n.third

  module _ (h : NodeLimits n × ScenarioLimits s) where
    pub first-size : nat_abs (s.first *ℤ n.first) ≤ 10000 * 1000000
    first-size = abs-mul-le s.first n.first h.1.first h.0.first

    pub second-size : nat_abs (s.second *ℤ n.second) ≤ 10000 * 1000000
    second-size = abs-mul-le s.second n.second h.1.second h.0.second

    pub third-size : nat_abs (s.third *ℤ n.third) ≤ 10000 * 1000000
    third-size = abs-mul-le s.third n.third h.1.third h.0.third

    pub two_size : nat_abs two ≤ 20000000000
    two_size = omega (arith, abs-add (s.first *ℤ n.first) (s.second *ℤ n.second), first-size, second-size)

    pub three-size : nat_abs three ≤ 30000000000
    three-size = omega (arith, abs-add two (s.third *ℤ n.third), two_size, third-size)

    pub hundredth-size : nat_abs (quot_z three (pos 100)) ≤ 30000000000
    hundredth-size = rw (abs-quot three (pos 100)) (le_trans (div-le_self _ _) three-size)

    pub shifted-size : nat_abs (shifted s n) ≤ 30001000000
    unfolding shifted
    shifted-size = omega (arith, abs-add (pos n.rate) (quot_z three (pos 100)), hundredth-size)

    pub code-first : read s.first *ℤ read n.first ≡ s.first *ℤ n.first
    code-first = code-term s.first n.first h.1.first h.0.first

    pub code-second : read s.second *ℤ read n.second ≡ s.second *ℤ n.second
    code-second = code-term s.second n.second h.1.second h.0.second

    pub code-third : read s.third *ℤ read n.third ≡ s.third *ℤ n.third
    code-third = code-term s.third n.third h.1.third h.0.third

    pub code-two : read (read s.first *ℤ read n.first) +ℤ read (read s.second *ℤ read n.second) ≡ two
    code-two =
        rw
        (code-first, code-second, read_is (s.first *ℤ n.first) (omega (arith, first-size)), read_is (s.second *ℤ n.second) (omega (arith, second-size)))
        refl

    pub code-three
        : read (read (read s.first *ℤ read n.first) +ℤ read (read s.second *ℤ read n.second)) +ℤ read (read s.third *ℤ read n.third)
        ≡ three
    code-three =
        rw (code-two, code-third, read_is two (omega (arith, two_size)), read_is (s.third *ℤ n.third) (omega (arith, third-size))) refl

    pub code-hundredth
        : quot_z (read (read (read (read s.first *ℤ read n.first) +ℤ read (read s.second *ℤ read n.second)) +ℤ read (read s.third *ℤ read n.third))) (pos 100)
        ≡ quot_z three (pos 100)
    code-hundredth = rw (code-three, read_is three (omega (arith, three-size))) refl

    pub code-shifted
        : cast n.rate
        +ℤ read (quot_z (read (read (read (read s.first *ℤ read n.first) +ℤ read (read s.second *ℤ read n.second)) +ℤ read (read s.third *ℤ read n.third))) (pos 100))
        ≡ shifted s n
    unfolding shifted
    code-shifted =
        rw (code-hundredth, cast_is n.rate (omega arith), read_is (quot_z three (pos 100)) (omega (arith, hundredth-size)))
        refl
