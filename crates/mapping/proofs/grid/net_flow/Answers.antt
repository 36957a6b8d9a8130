-- `mapping::grid::net_flow` meets its contract.
use Rattle.laws.proofs.Signed.{back}
use Rattle.mapping.proofs.MappedDays.{received_is}
use Rattle.mapping.proofs.grid.net_flow.Goals as goal

pub returns : goal.returns
returns c =
    rw (c.unsigned_abs.ensures.value, back c.args.net c.ranges.net.sfits, received_is c.args.net)
