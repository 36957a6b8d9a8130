-- `flows::walk::legs_of` meets its contract.
use mathlib.Core.Path.{ap, ◌∙◌}
use Rattle.legs.specs.Runs.{legs_flows}
use Rattle.flows.specs.Legs.{any_above, breaks_flow_limit}
use Rattle.flows.specs.Counted.{counted_legs}
use Rattle.flows.proofs.Above.{legs-capped}
use Rattle.flows.proofs.Counted.{flows-counted}
use Rattle.flows.proofs.Reach.{counted-legs-reach, capped-reach}
use Rattle.flows.proofs.walk.legs_of.Goals as goal

pub returns : goal.returns
unfolding breaks_flow_limit
returns c =
    let t = c.args.t in
    let l = counted_legs t in
    let v = c.requires in record { flows = ap legs_flows c.capped_legs.ensures ∙ legs-capped l (ap any_above (flows-counted t) ∙ v.within) ∙ flows-counted t; limits = rw c.capped_legs.ensures (capped-reach l (counted-legs-reach t v.limits)) }
