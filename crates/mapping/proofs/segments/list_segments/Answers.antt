-- `mapping::segments::list_segments` meets its contract.
use native.Mathlib.Omega.{arith}
use Rattle.mapping.proofs.SegmentLists.{listing-first, listing-next, listing-last}
use Rattle.mapping.proofs.segments.list_segments.Goals as goal

pub loop-i-init : goal.loop-i-init
loop-i-init c =
    rw (c.new.ensures, c.range_of.ensures) (listing-first _ c.requires.0 _ _ c.requires.2)

pub loop-i-preserved : goal.loop-i-preserved
loop-i-preserved c =
    rw (c.new-in-loop-i.ensures, c.range_of-in-loop-i.ensures)
    (listing-next _ c.requires.0 _ _ _ c.loop-i.invariant (omega arith) c.loop-i-test.true)

pub returns-clause-each : goal.returns-clause-each
returns-clause-each c =
    rw (c.new-2.ensures, c.range_of-2.ensures)
    (listing-last _ c.requires.0 _ _ _ c.loop-i.invariant (omega arith) (omega (arith, c.requires.0.least)))
