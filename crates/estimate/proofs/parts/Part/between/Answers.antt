-- `estimate::parts::Part::between` meets its contract.
use native.Mathlib.Omega.{arith}
use Rattle.estimate.proofs.LineDays.{going-first, going_end}
use Rattle.estimate.proofs.parts.Part.between.Goals as goal

pub returns-then-self-end : goal.returns-then-self-end
returns-then-self-end c =
    going_end _ _ _ _ _ _ (going-first _ _ _ _ _ c.requires.1) (omega (arith, c.if-self-end.true))
