-- `mapping::grid::first_flow` meets its contract.
use Rattle.mapping.proofs.NetParts.{part-le}
use Rattle.mapping.proofs.grid.first_flow.Goals as goal

pub overflow_sub-result : goal.overflow_sub-result
overflow_sub-result c =
    rw c.last_flow.ensures (part-le c.args.f c.args.k c.requires.0 c.requires.1)
