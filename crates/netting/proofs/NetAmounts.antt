-- An amount more or less in a net amount: 64 bits hold it.
use mathlib.Core.Path.{◌≡◌, refl}
use Prim.Native.Nat.{ℕ, ◌^◌, ◌≤◌, ◌<◌}
use native.Mathlib.Omega.{arith}
use mir.Syntax.{w64}
use mir.Val.{SFits}
use lib.IntN.{ℤ, pos, nat_abs, ◌+ℤ◌, ◌-ℤ◌}
use Rattle.laws.proofs.Signed.{fits, cast, read, cast_is, read_is, abs-add, abs-sub}
use Rattle.discount.specs.declared.Flow.{Flow}
use Rattle.discount.specs.Flows.{signed}
use Rattle.netting.proofs.Sizes.{signed-more}

module _ (z : ℤ) (v : ℕ) (small : nat_abs z ≤ 1000000000000000000) (most : v ≤ 1000000000000000000) where
  pub cast_fits : SFits w64 (pos v)
  cast_fits = fits (pos v) (omega arith)

  more-size : nat_abs (z +ℤ pos v) < 2 ^ 63
  more-size = omega (arith, abs-add z (pos v))

  less-size : nat_abs (z -ℤ pos v) < 2 ^ 63
  less-size = omega (arith, abs-sub z (pos v))

  code-more : read z +ℤ cast v ≡ z +ℤ pos v
  code-more = rw (read_is z (omega arith), cast_is v (omega arith)) refl

  code-less : read z -ℤ cast v ≡ z -ℤ pos v
  code-less = rw (read_is z (omega arith), cast_is v (omega arith)) refl

  pub fits_more : SFits w64 (read z +ℤ cast v)
  fits_more = rw code-more (fits (z +ℤ pos v) more-size)

  pub read_more : read (read z +ℤ cast v) ≡ z +ℤ pos v
  read_more = rw code-more (read_is (z +ℤ pos v) more-size)

  pub fits-less : SFits w64 (read z -ℤ cast v)
  fits-less = rw code-less (fits (z -ℤ pos v) less-size)

  pub read-less : read (read z -ℤ cast v) ≡ z -ℤ pos v
  read-less = rw code-less (read_is (z -ℤ pos v) less-size)

-- with a flow more, read back from its bits
pub net-read : (x : ℤ) (f : Flow) → nat_abs x ≤ 1000000000000000000 → f.amount ≤ 1000000000000000000 → (r : ℤ) → r ≡ x +ℤ signed f.received f.amount
    → read r ≡ x +ℤ signed f.received f.amount
net-read x f h s r e = rw e (read_is (x +ℤ signed f.received f.amount) (omega (arith, signed-more x f.received f.amount)))
