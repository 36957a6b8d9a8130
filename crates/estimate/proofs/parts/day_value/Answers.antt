-- `estimate::parts::day_value` meets its contract.
use Rattle.laws.proofs.Signed.{back}
use Rattle.cheap.specs.Cheap.{whole}
use Rattle.cheap.proofs.Bound.{cheap-le}
use Rattle.estimate.specs.Values.{most_size}
use Rattle.estimate.proofs.parts.day_value.Goals as goal
use Rattle.estimate.proofs.parts.day_value.Goals.{After-factor, Start}

-- the entry's record

pub worth-requires : goal.worth-requires
unfolding whole most_size
worth-requires c =
    (rw (back c.args.net c.ranges.net.sfits) c.requires.1, rw c.factor.ensures (cheap-le _ _))
