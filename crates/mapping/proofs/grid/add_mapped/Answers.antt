-- `mapping::grid::add_mapped` meets its contract.
use native.Mathlib.Omega.{arith}
use Rattle.mapping.proofs.NetParts.{last-limits, excess-limits, one-length, two-length, one-moved, two-moved}
use Rattle.mapping.proofs.grid.add_mapped.Goals as goal
use Rattle.mapping.proofs.grid.add_mapped.Goals.{After-add_flow, Start}

-- what the nets are after the first flow, and after the second
pub add_flow-requires-2 : goal.add_flow-requires-2
add_flow-requires-2 c =
    let after-add = c.before.before.before in
    let s = after-add in
    let f = s.args.f in
    let k = s.args.k in
    let nets = s.args.nets.now in
    rw (after-add.add_flow.ensures, after-add.first_flow.ensures, c.last_flow.ensures)
    (one-length f k s.requires.1 s.requires.2 nets s.requires.0.places, last-limits f k s.requires.1 s.requires.2, omega (arith, one-moved f k s.requires.1 s.requires.2 nets s.requires.0.places k.last, s.requires.0.each k.last, s.requires.1.amount))

pub add_flow-requires-3 : goal.add_flow-requires-3
add_flow-requires-3 c =
    let after-add2 = c.before.before.before in
    let after_last = after-add2.before in
    let after-add = after_last.before.before.before in
    let s = after-add in
    let f = s.args.f in
    let k = s.args.k in
    let nets = s.args.nets.now in
    rw (after-add2.add_flow-2.ensures, after_last.last_flow.ensures, after-add.add_flow.ensures, after-add.first_flow.ensures, c.excess_flow.ensures)
    (two-length f k s.requires.1 s.requires.2 nets s.requires.0.places, excess-limits f k s.requires.1 s.requires.2, omega (arith, two-moved f k s.requires.1 s.requires.2 nets s.requires.0.places k.first, s.requires.0.each k.first, s.requires.1.amount))
