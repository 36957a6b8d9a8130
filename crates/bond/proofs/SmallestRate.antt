-- The rate that is found: at it the bond is worth at most the cash, and at every rate below it more.
use mathlib.Core.Path.{◌≡◌}
use mathlib.Core.Bool.{Bool, false}
use mathlib.Core.List.{List}
use Prim.Native.Nat.{ℕ, ◌≤◌, ◌<◌}
use borrow.Author.Tests.{ltb-false, leb-true, leb-false, le-leb}
use lib.Dec.{leb, ltb}
use Rattle.laws.specs.Smallest.{smallest-le, smallest-holds, smallest-below}
use Rattle.laws.proofs.Bools.{neither}
use Rattle.discount.specs.declared.Flow.{Flow}
use Rattle.curve.specs.declared.Node.{Node}
use Rattle.curve.specs.Limits.{highest_rate}
use Rattle.bond.specs.Value.{bond_value_at, breaks_rate_range, rate_for}

module _ (nodes : List Node) (n : Node) (payments : List Flow) (cash : ℕ) where
  abbrev value : ℕ → ℕ
  value = bond_value_at nodes n payments

  abbrev is_enough : ℕ → Bool
  is_enough rate = leb (value rate) cash

  pub found-limit : rate_for nodes n payments cash ≤ highest_rate
  unfolding rate_for
  found-limit = smallest-le is_enough highest_rate

  -- where 18 is not broken, the highest rate is enough,
  pub highest-enough : breaks_rate_range nodes n payments cash ≡ false → bond_value_at nodes n payments highest_rate ≤ cash
  unfolding breaks_rate_range
  highest-enough h = ltb-false cash (value highest_rate) (neither (ltb cash (value highest_rate)) (ltb (value 0) cash) h).0

  -- and so is the rate that is found,
  pub found-enough : breaks_rate_range nodes n payments cash ≡ false → bond_value_at nodes n payments (rate_for nodes n payments cash) ≤ cash
  unfolding rate_for
  found-enough h =
      leb-true (value (rate_for nodes n payments cash)) cash (smallest-holds is_enough highest_rate (le-leb (value highest_rate) cash (highest-enough h)))

  -- and no rate below it
  pub found-above : (rate : ℕ) → rate < rate_for nodes n payments cash → cash < bond_value_at nodes n payments rate
  unfolding rate_for
  found-above rate l = leb-false (value rate) cash (smallest-below is_enough highest_rate rate l)
