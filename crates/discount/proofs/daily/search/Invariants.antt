-- The factor is below one. The measure is how far it stands from the root, to which every turn comes one nearer.
use Prim.Native.Nat.{◌<◌}
use Rattle.decimal.specs.Product.{unit}
use Rattle.discount.specs.Discount.{root}
use Rattle.discount.specs.Powers.{gap}
use Rattle.discount.proofs.daily.search.Given as goal

abbrev pub invariant-loop-yearly : goal.invariant-loop-yearly
invariant-loop-yearly l = l.q.0 < unit

abbrev pub decreases-loop-yearly : goal.decreases-loop-yearly
decreases-loop-yearly l = gap (root l.yearly.0) l.q.0
