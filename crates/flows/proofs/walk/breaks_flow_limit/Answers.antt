-- `flows::walk::breaks_flow_limit` meets its contract.
use Rattle.flows.specs.Legs.{breaks_flow_limit}
use Rattle.flows.specs.Counted.{counted_legs}
use Rattle.flows.proofs.Above.{any-capped, any-legs}
use Rattle.flows.proofs.Counted.{flows-counted}
use Rattle.flows.proofs.walk.breaks_flow_limit.Goals as goal

pub returns : goal.returns
unfolding breaks_flow_limit
returns c =
    let legs = c.capped_legs-l.ensures in
    let t = c.args.t in
    let l = counted_legs t in
    rw (
      ← flows-counted t,
      any-legs l,
      c.leg_above.ensures,
      c.leg_above-2.ensures,
      c.leg_above-3.ensures,
      legs,
      any-capped l.first,
      any-capped l.second,
      any-capped l.payments,
    )
