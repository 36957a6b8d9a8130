-- `figures::worked::interest` meets its contract.
use mathlib.Core.Path.{◌∙◌}
use Rattle.flows.proofs.Bounds.{interest-bound}
use Rattle.figures.specs.Worked.{interest_for}
use Rattle.figures.proofs.worked.interest.Goals as goal

pub returns : goal.returns
unfolding interest_for
returns c =
    let t = c.within.ensures in
    let r = c.rate.ensures in
    let n = c.amount.ensures in
    (c.interest_on.ensures ∙ rw (t.0, r.0, n.0), rw c.interest_on.ensures (interest-bound _ _ _ n.1 r.2 t.2))
