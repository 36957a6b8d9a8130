-- `figures::extension::coupon_bond` meets its contract: the fields stand as they were put.
use Rattle.figures.specs.Extension.{coupon_bond}
use Rattle.figures.proofs.Fields.{next_field}
use Rattle.figures.proofs.extension.coupon_bond.Goals as goal

pub returns : goal.returns
unfolding coupon_bond
returns c =
    next_field 12 8 10000000000 c.put_le-5.ensures
    (next_field 8 4 50000 c.put_le-4.ensures
    (next_field 4 2 2 c.put_le-3.ensures (next_field 2 2 180 c.put_le-2.ensures c.put_le.ensures)))
