-- The search for the rate, which halves the rates that are left.
use mathlib.Core.Path.{◌≡◌}
use mathlib.Core.Bool.{false}
use mathlib.Core.List.{List}
use Prim.Native.Nat.{ℕ, ◌+◌, ◌≤◌, ◌<◌}
use native.Mathlib.Omega.{arith}
use borrow.Author.Tests.{le-leb, lt-leb}
use lib.Dec.{leb}
use Rattle.laws.specs.Smallest.{smallest-is}
use Rattle.discount.specs.declared.Flow.{Flow}
use Rattle.curve.specs.declared.Node.{Node}
use Rattle.curve.specs.Limits.{highest_rate}
use Rattle.bond.specs.Value.{bond_value_at, breaks_rate_range, rate_for}
use Rattle.bond.proofs.Falls.{value-falls}
use Rattle.bond.proofs.SmallestRate.{highest-enough}

-- no rate below `low` is enough, and `high` is
pub record Left (nodes : List Node) (n : Node) (payments : List Flow) (cash low high : ℕ) : Type 0 where
  pub order : low ≤ high
  pub limit : high ≤ highest_rate
  pub above : (rate : ℕ) → rate < low → cash < bond_value_at nodes n payments rate
  pub enough : bond_value_at nodes n payments high ≤ cash

module _ {nodes : List Node} {n : Node} {payments : List Flow} {cash : ℕ} where
  pub left-all : breaks_rate_range nodes n payments cash ≡ false → Left nodes n payments cash 0 highest_rate
  left-all h = record {
    order = omega arith;
    limit = omega arith;
    above = λ rate l. absurd (omega arith);
    enough = highest-enough nodes n payments cash h;
  }

  module _ {low high : ℕ} (h : Left nodes n payments cash low high) where
    -- the rates above one that is not enough
    pub left-high : (middle : ℕ) → middle < high → cash < bond_value_at nodes n payments middle → Left nodes n payments cash (middle + 1) high
    left-high middle m more = record {
      order = omega arith;
      limit = h.limit;
      above = λ rate l. omega (arith, value-falls nodes n payments {r = rate} {s = middle} (omega arith));
      enough = h.enough;
    }

    pub left_one : high ≤ low → low ≡ rate_for nodes n payments cash
    unfolding rate_for
    left_one l =
        let e : low ≡ high = omega arith in
        smallest-is (λ rate. leb (bond_value_at nodes n payments rate) cash) highest_rate low (omega arith)
        (le-leb (bond_value_at nodes n payments low) cash (rw e h.enough))
        (λ rate k. lt-leb (bond_value_at nodes n payments rate) cash (h.above rate k))
