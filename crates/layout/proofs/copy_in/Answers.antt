-- `layout::copy_in` meets its contract.
use Rattle.std.proofs.Common.{arith}
use Rattle.layout.proofs.Bytes.{put-lent}
use Rattle.layout.proofs.copy_in.Goals as goal

pub returns : goal.returns
returns c = rw (c.copy_from_slice.ensures.after) (put-lent c.args.dst.now c.args.at _ c.args.src.now (omega arith) (omega arith))
