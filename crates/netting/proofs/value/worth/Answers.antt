-- `netting::value::worth` meets its contract: a shift rounds down, whatever the sign.
use mathlib.Core.Path.{◌≡◌, refl}
use Prim.Native.Nat.{ℕ, zero, suc, ◌+◌, ◌-◌, ◌*◌, ◌/◌, ◌^◌, ◌≤◌, ◌<◌}
use native.Mathlib.Nat.{mul-le-mul}
use native.Mathlib.Omega.{arith}
use lib.IntN.{ℤ, pos, negsuc, neg_ℤ, nat_abs, ◌*ℤ◌}
use lib.Signed.{shr_z}
use mir.Syntax.{w128}
use mir.Val.{to_z, of_z}
use mir.Facts.{to_z-of_z}
use Rattle.laws.proofs.Signed.{mag-abs, abs-mul, read_is}
use Rattle.cheap.specs.Cheap.{whole}
use Rattle.netting.specs.Netting.{worth}
use Rattle.netting.proofs.Sizes.{worth-size}
use Rattle.netting.proofs.value.worth.Goals as goal

shifted : (c : ℕ) (z : ℤ) → shr_z (z *ℤ pos c) 2147483648 ≡ worth c z
unfolding worth whole
shifted c (pos n) = refl
shifted c (negsuc n) = go (suc n * c)
  where
    go : (m : ℕ) → shr_z (neg_ℤ (pos m)) 2147483648 ≡ neg_ℤ (pos ((m + (2147483648 - 1)) / 2147483648))
    go zero = refl
    go (suc k) = let e : (suc k + (2147483648 - 1)) / 2147483648 ≡ suc (k / 2147483648) = omega arith in rw e refl

-- a number of 128 bits is read back
wide : (z : ℤ) → nat_abs z < 2 ^ 127 → to_z w128 (of_z w128 z) ≡ z
wide z h = to_z-of_z {w = w128} {z = z} (record { sfits = omega (arith, mag-abs z) })

pub returns : goal.returns
returns c =
    let z = c.args.net in
    let f = c.args.factor in
    let size : nat_abs (z *ℤ pos f) ≤ 140000000000000000 * 2147483648 = rw (abs-mul z (pos f)) (mul-le-mul c.requires.0 c.requires.1) in
    rw
    (c.from.ensures, c.from-2.ensures, read_is z (omega (arith, c.requires.0)), wide z (omega (arith, c.requires.0)), wide (pos f) (omega (arith, c.requires.1)), wide (z *ℤ pos f) (omega (arith, size)), shifted f z, wide (worth f z) (omega (arith, worth-size f z c.requires.1, c.requires.0)))
    (read_is (worth f z) (omega (arith, worth-size f z c.requires.1, c.requires.0)))
