-- Net amounts with room for more flows: what keeps them in 64 bits.
use Rattle.std.specs.Prelude.{List, ℕ, ℤ, nat_abs}
use Rattle.decimal.specs.Product.{unit}
use Rattle.netting.specs.Netting.{net_on}
use Rattle.ladder.specs.Totals.{RoomFor}

-- the net amount of each day has room for n flows more
pub record NetsRoom (n : ℕ) (nets : List ℤ) : Type 0 where
  pub each : (day : ℕ) → RoomFor unit n (nat_abs (net_on nets day))
