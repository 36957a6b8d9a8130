-- `estimate::lines::level` meets its contract.
use native.Mathlib.Omega.{arith}
use Prim.Native.Nat.{◌*◌}
use Rattle.laws.proofs.Signed.{cast_is}
use Rattle.estimate.specs.Lines.{line_scale, level}
use Rattle.estimate.proofs.lines.level.Goals as goal

pub returns : goal.returns
unfolding level line_scale
returns c = rw (cast_is (c.args.rate * 134217728) (omega arith))
