-- The value of a bond never rises with the rate of the new node.
use mathlib.Core.List.{List, [], ◌∷◌, ◌++◌}
use Prim.Native.Nat.{ℕ, ◌≤◌}
use Rattle.discount.specs.declared.Flow.{Flow}
use Rattle.discount.proofs.Sums.{sum-falls}
use Rattle.curve.specs.declared.Node.{Node}
use Rattle.curve.specs.Lengthen.{at_rate}
use Rattle.curve.specs.Rates.{rate_at}
use Rattle.curve.proofs.Lengthened.{rate-rises}
use Rattle.bond.specs.Value.{bond_value, bond_value_at}

pub value-falls : (nodes : List Node) (n : Node) (payments : List Flow) {r s : ℕ} → r ≤ s → bond_value_at nodes n payments s ≤ bond_value_at nodes n payments r
unfolding bond_value bond_value_at
value-falls nodes n payments {r} {s} h =
    sum-falls (rate_at (nodes ++ at_rate n r ∷ [])) (rate_at (nodes ++ at_rate n s ∷ [])) (λ day. rate-rises nodes n day h) payments
