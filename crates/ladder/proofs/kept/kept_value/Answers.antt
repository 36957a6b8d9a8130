-- `ladder::kept::kept_value` meets its contract.
use mathlib.Core.Path.{◌∙◌}
use native.Mathlib.Omega.{arith}
use Rattle.ladder.proofs.KeptFactors.{value-of-factor}
use Rattle.ladder.proofs.kept.kept_value.Goals as goal

pub returns : goal.returns
returns c rate day k = c.discounted.ensures ∙ value-of-factor c.args.amount rate day (k.factor (omega arith))
