-- `layout::put_signed` meets its contract.
use Rattle.std.proofs.Common.{◌≡◌, refl, ◌∙◌, ℤ, pos, negsuc, of_z, w64}
use Rattle.layout.proofs.Signed.{code_read}
use Rattle.layout.specs.Field.{twos}
use Rattle.layout.proofs.put_signed.Goals as goal

twos_cast : (z : ℤ) → of_z w64 z ≡ twos z
unfolding twos
twos_cast (pos n) = refl
twos_cast (negsuc n) = refl

pub returns : goal.returns
returns c = c.put_le.ensures ∙ rw (c.cast_unsigned.ensures, code_read c.args.v c.ranges.v, twos_cast)
