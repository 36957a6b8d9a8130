-- `mapping::segments::bucket_in` meets its contract.
use mathlib.Core.Path.{sym, ◌∙◌}
use Rattle.mapping.proofs.SegmentBuckets.{bucket-found, bucket-passed, bucket-none}
use Rattle.mapping.proofs.segments.bucket_in.Goals as goal

pub returns-then-day-segment : goal.returns-then-day-segment
returns-then-day-segment c =
    c.bucket_on.ensures
    ∙ sym (c.loop-segment.invariant ∙ bucket-found c.args.segments.now _ _ c.loop-segment-test.true c.if-day-segment.true)

pub loop-segment-preserved : goal.loop-segment-preserved
loop-segment-preserved c =
    c.loop-segment.invariant ∙ bucket-passed c.args.segments.now _ _ c.loop-segment-test.true c.if-day-segment.false

pub returns : goal.returns
returns c =
    c.alone.ensures ∙ sym (c.loop-segment.invariant ∙ bucket-none c.args.segments.now _ _ c.loop-segment-test.false)
