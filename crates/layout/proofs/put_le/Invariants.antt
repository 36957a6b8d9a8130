-- `layout::put_le` meets its contract: what is written and what is left to write are together all.
use Rattle.std.proofs.Common.{◌≡◌, ◌-◌}
use Rattle.layout.specs.Bytes.{put}
use Rattle.layout.specs.Field.{bytes_of}
use Rattle.layout.proofs.put_le.Given as goal

abbrev pub invariant-loop-byte : goal.invariant-loop-byte
invariant-loop-byte l =
    put l.initial.byte-items 0 (bytes_of l.n l.v) ≡ put l.byte-items l.byte-index (bytes_of (l.n - l.byte-index) l.rest)
