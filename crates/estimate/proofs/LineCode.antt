-- What the code of a line holds after each operation, with its size.
use mathlib.Core.Path.{◌≡◌, refl}
use Prim.Native.Nat.{ℕ, ◌<◌, ◌≤◌, ◌^◌}
use native.Mathlib.Omega.{arith}
use lib.IntN.{ℤ, pos, nat_abs, neg_ℤ, ◌+ℤ◌, ◌-ℤ◌, ◌*ℤ◌, +ℤ_idl}
use Rattle.laws.proofs.Signed.{cast, read, cast_is, read_is, abs-add, abs-sub, abs_neg, abs-mul-le}
use Rattle.estimate.specs.declared.lines.Line.{Line}
use Rattle.estimate.specs.Lines.{stands_at, Drawn, steepest}

-- ---- a slope, up and down

module _ (s : ℕ) (h : s ≤ steepest) where
  pub code_up : cast s ≡ pos s
  code_up = cast_is s (omega arith)

  pub down-size : nat_abs (neg_ℤ (pos s)) ≤ steepest
  down-size = rw (abs_neg (pos s)) h

  pub code-down : pos 0 -ℤ cast s ≡ neg_ℤ (pos s)
  code-down = rw code_up (+ℤ_idl (neg_ℤ (pos s)))

  pub down-read : read (pos 0 -ℤ cast s) ≡ neg_ℤ (pos s)
  down-read = rw code-down (read_is (neg_ℤ (pos s)) (omega (arith, down-size)))

-- ---- what a slope makes in t days

module _ (slope : ℤ) (t : ℕ) (h : nat_abs slope ≤ steepest) (k : t ≤ 10950) where
  pub moved-size : nat_abs (slope *ℤ pos t) ≤ 1533000000000000000
  moved-size = abs-mul-le slope (pos t) {m = 140000000000000} {n = 10950} h k

  pub code-moved : read slope *ℤ cast t ≡ slope *ℤ pos t
  code-moved = rw (read_is slope (omega arith), cast_is t (omega arith)) refl

  -- the start of a line that stands n parts high on day t
  module _ (n : ℕ) (m : n ≤ 140000000000000) where
    pub code-start : cast n -ℤ read (read slope *ℤ cast t) ≡ pos n -ℤ slope *ℤ pos t
    code-start = rw (cast_is n (omega arith), code-moved, read_is (slope *ℤ pos t) (omega (arith, moved-size))) refl

    pub start-size : nat_abs (pos n -ℤ slope *ℤ pos t) < 2 ^ 63
    start-size = omega (arith, abs-sub (pos n) (slope *ℤ pos t), moved-size)

-- ---- its rate on day t

module _ (l : Line) (t : ℕ) (d : Drawn l t) where
  pub stands-size : nat_abs (stands_at l t) ≤ 3533000000000000000
  stands-size = omega (arith, abs-add l.start (l.slope *ℤ pos t), moved-size l.slope t d.slope d.day, d.start)

  pub code-stands : read l.start +ℤ read (read l.slope *ℤ cast t) ≡ stands_at l t
  code-stands =
      rw (code-moved l.slope t d.slope d.day, read_is l.start (omega (arith, d.start)), read_is (l.slope *ℤ pos t) (omega (arith, moved-size l.slope t d.slope d.day))) refl

  pub stands_read : read (stands_at l t) ≡ stands_at l t
  stands_read = read_is (stands_at l t) (omega (arith, stands-size))
