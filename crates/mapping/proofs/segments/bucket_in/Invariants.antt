-- `mapping::segments::bucket_in` meets its contract.
use mathlib.Core.Path.{◌≡◌}
use lib.ListN.{drop}
use Rattle.mapping.specs.Segments.{bucket_in}
use Rattle.mapping.proofs.segments.bucket_in.Given as goal

abbrev pub invariant-loop-segment : goal.invariant-loop-segment
invariant-loop-segment l = bucket_in l.segments l.day ≡ bucket_in (drop l.segment-index l.segments) l.day
