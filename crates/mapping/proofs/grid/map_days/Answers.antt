-- `mapping::grid::map_days` meets its contract: what is held, with the days left, is all.
use borrow.Author.Rules.{rules}
use mathlib.Core.Path.{◌≡◌, ◌∙◌}
use mathlib.Core.List.{List}
use native.Mathlib.Omega.{arith}
use lib.IntN.{ℤ, pos}
use lib.ListN.{length, get_or, length-replicate}
use Rattle.bucket.specs.Mapped.{net_flow}
use Rattle.netting.specs.Netting.{net_on, no_nets}
use Rattle.mapping.proofs.MappedDays.{net-at, mapping-first, flow-limits, mapping-room, bucket-limits, mapping-next, mapping-all}
use Rattle.mapping.proofs.grid.map_days.Goals as goal
use Rattle.mapping.proofs.grid.map_days.Goals.{After-net_flow}

none-length : (held : List ℤ) → held ≡ no_nets → length held ≡ 10951
none-length held e = rw e (length-replicate 10951 (pos 0))

pub loop-day-init : goal.loop-day-init
loop-day-init c =
    mapping-first _ _ _ c.requires.1 _ c.requires.2 (none-length _ c.requires.2)

pub net_flow-requires : goal.net_flow-requires
net_flow-requires c =
    rw (net-at c.args.nets.now c.from-at.ensures (search rules))
    (omega (arith, (flow-limits _ _ _ _ _ c.loop-day.invariant c.loop-day-test.true).amount))

-- a turn's day as a flow
flow-is : (c : After-net_flow) → c.net_flow.result ≡ net_flow (get_or c.args.days.now c.loop-day.day-index 0) (net_on c.args.nets.now (get_or c.args.days.now c.loop-day.day-index 0))
flow-is c =
    let e = net-at c.args.nets.now c.from-at.ensures (search rules) in
    c.net_flow.ensures ∙ rw (e, c.from-at.ensures)

pub add_mapped-requires : goal.add_mapped-requires
add_mapped-requires c =
    let inv = c.loop-day.invariant in
    let h = c.loop-day-test.true in
    rw (flow-is (goal.at.add_mapped-requires c).After-net_flow, c.bucket_in-k.ensures, c.from-at.ensures)
    (mapping-room _ _ _ _ _ inv h, flow-limits _ _ _ _ _ inv h, bucket-limits _ _ _ _ _ inv h c.requires.0)

pub loop-day-preserved : goal.loop-day-preserved
loop-day-preserved c =
    rw (c.add_mapped.ensures, flow-is (goal.at.loop-day-preserved c).After-net_flow, c.bucket_in-k.ensures, c.from-at.ensures)
    (mapping-next _ _ _ _ _ c.loop-day.invariant c.loop-day-test.true c.requires.0)

pub returns : goal.returns
returns c = mapping-all _ _ _ _ _ c.loop-day.invariant (omega arith)
