-- `layout::i32_at` meets its contract.
use Rattle.std.proofs.Common.{◌≡◌, ℕ, ◌<◌, ◌^◌, to_z, w32, arith}
use Rattle.std.proofs.lemmas.Int.{ints, to_z-of_z}
use Rattle.std.proofs.lemmas.Bool.Decides.{nat_tests}
use Rattle.layout.specs.Field.{signed_of}
use Rattle.layout.proofs.i32_at.Goals as goal

signed_cast : (n : ℕ) → n < 2 ^ 32 → to_z w32 n ≡ signed_of 32 n
unfolding signed_of
signed_cast n h = grind (arith, ints, nat_tests)

pub returns-clause-value : goal.returns-clause-value
returns-clause-value c = grind (arith, to_z-of_z, signed_cast)
