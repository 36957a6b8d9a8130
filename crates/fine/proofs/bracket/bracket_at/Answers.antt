-- `fine::bracket::bracket_at` meets its contract: document 01's factor lies there (`Bound.antt`).
use Rattle.fine.specs.Fine.{bracket_at}
use Rattle.fine.proofs.Bound.{fine-between}
use Rattle.fine.proofs.bracket.bracket_at.Goals as goal

pub returns-clause-between : goal.returns-clause-between
unfolding bracket_at
returns-clause-between c = rw (c.bracket_of.ensures.same, c.factor.ensures.0) (fine-between c.args.rate c.args.day c.requires.0 c.requires.1)
