-- `ground::breaks_space` meets its contract.
use mathlib.Core.Path.{refl}
use Rattle.ground.specs.Space.{breaks_space}
use Rattle.ground.proofs.breaks_space.Goals as goal

pub returns : goal.returns
unfolding breaks_space
returns c = refl
