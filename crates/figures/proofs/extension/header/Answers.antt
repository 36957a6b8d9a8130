-- `figures::extension::header` meets its contract.
use mathlib.Core.Path.{ap, ◌∙◌}
use Rattle.layout.specs.Check.{sealed}
use Rattle.figures.specs.Extension.{known_header}
use Rattle.figures.proofs.extension.header.Goals as goal

pub returns : goal.returns
unfolding known_header
returns c = c.seal.ensures ∙ ap sealed c.put_le.ensures
