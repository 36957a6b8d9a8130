-- An interpolated rate is a number on the line between its nodes; and what the code holds after each operation, with its size.
use mathlib.Core.Path.{◌≡◌, refl}
use native.Mathlib.Decide.{dec_le}
use Prim.Native.Nat.{ℕ, ◌+◌, ◌-◌, ◌^◌, ◌≤◌, ◌<◌}
use native.Mathlib.Nat.{div-le_self, le_trans, le_of_lt}
use native.Mathlib.Omega.{arith}
use lib.IntN.{ℤ, pos, nat_abs, ◌+ℤ◌, ◌-ℤ◌, ◌*ℤ◌}
use lib.Signed.{quot_z}
use Rattle.laws.proofs.Signed.{cast, read, cast_is, read_is, abs-sub, abs-mul-le, abs-quot, sub-up, sub-down, mul-neg, quot-neg}
use Rattle.curve.specs.declared.Node.{Node}
use Rattle.curve.specs.Rates.{interpolated, BetweenNodes}
use Rattle.curve.specs.Limits.{highest_rate, NodeLimits}
use Rattle.curve.proofs.Line.{line, part-le, line-up, line-down, line-high, line-start, line-monotone}

abbrev rise : Node → Node → ℤ
rise a b = pos b.rate -ℤ pos a.rate

abbrev gone : Node → ℕ → ℤ
gone a t = pos t -ℤ pos a.day

abbrev run : Node → Node → ℤ
run a b = pos b.day -ℤ pos a.day

abbrev between : Node → Node → ℕ → ℕ
between a b t = line a.rate b.rate (t - a.day) (b.day - a.day)

module _ (a b : Node) (t : ℕ) (h : BetweenNodes a b t) where
  gone-is : gone a t ≡ pos (t - a.day)
  gone-is = sub-up t a.day h.from

  pub run_is : run a b ≡ pos (b.day - a.day)
  run_is = sub-up b.day a.day (omega arith)

  -- the rate in ℕ
  pub interpolated-line : interpolated a b t ≡ pos (between a b t)
  unfolding interpolated
  interpolated-line = go (dec_le a.rate b.rate)
    where
      go : Dec (a.rate ≤ b.rate) → interpolated a b t ≡ pos (between a b t)
      go (yes l) = rw (gone-is, run_is, sub-up b.rate a.rate l, line-up a.rate b.rate (t - a.day) (b.day - a.day) l)
      go (no l) =
          rw (gone-is, run_is, sub-down b.rate a.rate (omega arith), mul-neg, quot-neg, line-down a.rate b.rate (t - a.day) (b.day - a.day) (omega arith))
          (sub-up a.rate _ (omega (arith, part-le (a.rate - b.rate) (t - a.day) (b.day - a.day) (omega arith))))

  pub interpolated-is : interpolated a b t ≡ pos (nat_abs (interpolated a b t))
  interpolated-is = rw interpolated-line

  pub interpolated-high : (m : ℕ) → a.rate ≤ m → b.rate ≤ m → nat_abs (interpolated a b t) ≤ m
  interpolated-high m p q = rw interpolated-line (line-high a.rate b.rate (t - a.day) (b.day - a.day) (omega arith) m p q)

-- on the first node's day it is that node's rate
pub interpolated-start : (a b : Node) → a.day < b.day → nat_abs (interpolated a b a.day) ≡ a.rate
interpolated-start a b h =
    let gone : a.day - a.day ≡ 0 = omega arith in
    rw (interpolated-line a b a.day (record { from = omega arith; before = h }), gone) (line-start a.rate b.rate (b.day - a.day))

-- it does not fall where a node's rate rises
pub interpolated-monotone
    : (a b a' b' : Node) (t : ℕ) → BetweenNodes a b t → a.day ≡ a'.day → b.day ≡ b'.day → a.rate ≤ a'.rate → b.rate ≤ b'.rate
    → nat_abs (interpolated a b t) ≤ nat_abs (interpolated a' b' t)
interpolated-monotone a b a' b' t h da db p q =
    rw (interpolated-line a b t h, interpolated-line a' b' t (record { from = omega arith; before = omega arith }), ← da, ← db, days)
    (line-monotone a.rate b.rate a'.rate b'.rate (t - a.day) (b.day - t) (omega arith) p q)
  where
    days : b.day - a.day ≡ b.day - t + (t - a.day)
    days = omega arith

module _ (a b : Node) (t : ℕ) (h : NodeLimits a × NodeLimits b × BetweenNodes a b t) where
  pub rise-size : nat_abs (rise a b) < 2 ^ 22
  rise-size = omega (arith, abs-sub (pos b.rate) (pos a.rate))

  pub gone-size : nat_abs (gone a t) < 2 ^ 14
  gone-size = rw (gone-is a b t h.2) (omega arith)

  pub run-size : nat_abs (run a b) < 2 ^ 14
  run-size = rw (run_is a b t h.2) (omega arith)

  pub product-size : nat_abs (rise a b *ℤ gone a t) ≤ 2 ^ 36
  product-size = abs-mul-le (rise a b) (gone a t) (le_of_lt rise-size) (le_of_lt gone-size)

  pub quot-size : nat_abs (quot_z (rise a b *ℤ gone a t) (run a b)) ≤ 2 ^ 36
  quot-size = rw (abs-quot (rise a b *ℤ gone a t) (run a b)) (le_trans (div-le_self _ _) product-size)

  pub interpolated-size : nat_abs (interpolated a b t) ≤ highest_rate
  interpolated-size = interpolated-high a b t h.2 highest_rate h.0.rate h.1.rate

  pub code-rise : cast b.rate -ℤ cast a.rate ≡ rise a b
  code-rise = rw (cast_is b.rate (omega arith), cast_is a.rate (omega arith)) refl

  pub code-gone : cast t -ℤ cast a.day ≡ gone a t
  code-gone = rw (cast_is t (omega arith), cast_is a.day (omega arith)) refl

  pub code-run : cast b.day -ℤ cast a.day ≡ run a b
  code-run = rw (cast_is b.day (omega arith), cast_is a.day (omega arith)) refl

  pub code-product : read (cast b.rate -ℤ cast a.rate) *ℤ read (cast t -ℤ cast a.day) ≡ rise a b *ℤ gone a t
  code-product =
      rw
      (code-rise, code-gone, read_is (rise a b) (omega (arith, rise-size)), read_is (gone a t) (omega (arith, gone-size)))
      refl

  pub code-quot
      : quot_z (read (read (cast b.rate -ℤ cast a.rate) *ℤ read (cast t -ℤ cast a.day))) (read (cast b.day -ℤ cast a.day))
      ≡ quot_z (rise a b *ℤ gone a t) (run a b)
  code-quot =
      rw
      (code-product, code-run, read_is (rise a b *ℤ gone a t) (omega (arith, product-size)), read_is (run a b) (omega (arith, run-size)))
      refl

  pub code-interpolated
      : cast a.rate
      +ℤ read (quot_z (read (read (cast b.rate -ℤ cast a.rate) *ℤ read (cast t -ℤ cast a.day))) (read (cast b.day -ℤ cast a.day)))
      ≡ interpolated a b t
  unfolding interpolated
  code-interpolated =
      rw
      (code-quot, cast_is a.rate (omega arith), read_is (quot_z (rise a b *ℤ gone a t) (run a b)) (omega (arith, quot-size)))
      refl

  pub interpolated-read : read (interpolated a b t) ≡ interpolated a b t
  interpolated-read = read_is (interpolated a b t) (omega (arith, interpolated-size))
