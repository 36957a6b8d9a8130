-- `mapping::ranges::moved_by` meets its contract: the product of a swing and a distance fits.
use mathlib.Core.Path.{◌≡◌}
use Prim.Native.Nat.{◌*◌}
use native.Mathlib.Omega.{arith}
use lib.IntN.{nat_abs, ◌-ℤ◌}
use Rattle.laws.proofs.Signed.{back}
use Rattle.mapping.specs.Ranges.{swing}
use Rattle.mapping.proofs.RangeLaws.{moved-most}
use Rattle.mapping.proofs.ranges.moved_by.Goals as goal
use Rattle.mapping.proofs.ranges.moved_by.Goals.{After-abs_diff}

found : (c : After-abs_diff) → c.swing.result * c.abs_diff.result ≡ swing c.args.x * nat_abs (c.args.a -ℤ c.args.b)
found c = rw (c.abs_diff.ensures, c.swing.ensures, back c.args.a c.ranges.a.sfits, back c.args.b c.ranges.b.sfits)

pub overflow_mul-result : goal.overflow_mul-result
overflow_mul-result c = omega (arith, found c, moved-most c.args.x c.args.a c.args.b c.requires)

pub returns : goal.returns
returns c = (found c, omega (arith, found c, moved-most c.args.x c.args.a c.args.b c.requires))
