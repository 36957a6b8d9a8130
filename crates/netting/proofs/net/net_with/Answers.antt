-- `netting::net::net_with` meets its contract.
use Rattle.netting.proofs.NetAmounts.{cast_fits, fits_more, read_more, fits-less, read-less}
use Rattle.netting.proofs.net.net_with.Goals as goal

pub overflow_cast-amount : goal.overflow_cast-amount
overflow_cast-amount c =
    cast_fits c.args.net c.args.f.amount c.requires.0 c.requires.1

pub overflow_add-result : goal.overflow_add-result
overflow_add-result c =
    fits_more c.args.net c.args.f.amount c.requires.0 c.requires.1

pub returns-then-f : goal.returns-then-f
returns-then-f c =
    rw (read_more c.args.net c.args.f.amount c.requires.0 c.requires.1, c.if-f.true)

pub overflow_sub-result : goal.overflow_sub-result
overflow_sub-result c =
    fits-less c.args.net c.args.f.amount c.requires.0 c.requires.1

pub returns-else-f : goal.returns-else-f
returns-else-f c =
    rw (read-less c.args.net c.args.f.amount c.requires.0 c.requires.1, c.if-f.false)
