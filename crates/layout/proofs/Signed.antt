-- A signed number as the code reads it, and by its test of the sign.
use Rattle.std.proofs.Common.{◌≡◌, ℕ, false, List, ℤ, pos, negsuc, nat_abs, refl, true≢false, to_z-of_z, w64, SFits}
use lib.Signed.{lt_z, mag}
use Rattle.laws.proofs.Signed.{read, tested}
use Rattle.layout.specs.Bytes.{put}
use Rattle.layout.specs.Field.{bytes_of, twos}

pub natural : (v : ℤ) → lt_z v (pos 0) ≡ false → (v ≡ pos (nat_abs v)) × (nat_abs v ≡ twos v) × (nat_abs v ≡ mag v)
unfolding twos
natural (pos n) e = (refl, refl, refl)
natural (negsuc n) e = absurd (true≢false e)

module _ (v : ℤ) (f : SFits w64 v) where
  pub code_read : read v ≡ v
  code_read = to_z-of_z {w = w64} {z = v} f

  pub natural-of : lt_z (read v) (pos 0) ≡ false → (v ≡ pos (nat_abs v)) × (nat_abs v ≡ twos v) × (nat_abs v ≡ mag v)
  natural-of t = natural v (tested v (λ z. lt_z z (pos 0)) false f t)

-- a signed number is written as it is read back from its bits
pub read_back : (s : List ℕ) (at n : ℕ) (z : ℤ) → SFits w64 z → put s at (bytes_of n (twos (read z))) ≡ put s at (bytes_of n (twos z))
read_back s at n z f = rw (code_read z f)
