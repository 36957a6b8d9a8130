-- `legs::signs::signs_of` meets its contract: the code's table has the rows of which the rule is told.
use mathlib.Core.Path.{refl}
use Rattle.laws.specs.Walk.{table}
use Rattle.legs.proofs.Table.{at-place}
use Rattle.legs.proofs.signs.signs_of.Goals as goal

pub returns : goal.returns
unfolding table
returns c =
    let h = c.requires in
    at-place _ refl c.args.kind c.args.phase c.args.side h.0 h.1.0 h.1.1.0 h.1.1.1.0 h.1.1.1.1
