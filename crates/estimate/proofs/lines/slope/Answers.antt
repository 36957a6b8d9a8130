-- `estimate::lines::slope` meets its contract.
use Prim.Native.Nat.{◌*◌}
use native.Mathlib.Nat.{div-le_self}
use native.Mathlib.Omega.{arith}
use Rattle.estimate.specs.Lines.{line_scale, slope_of}
use borrow.Author.Rules.{rules}
use Rattle.estimate.proofs.lines.slope.Goals as goal

pub overflow_add-result : goal.overflow_add-result
overflow_add-result c = omega (arith, div-le_self (c.args.way * 134217728) c.args.run)

pub returns : goal.returns
unfolding slope_of line_scale
returns c = search rules
