-- `bond::value::fine_value_of` meets its contract.
use Rattle.curve.proofs.Rates.{curve-rate-limit}
use Rattle.bond.proofs.value.fine_value_of.Goals as goal

pub fine_value_at-requires : goal.fine_value_at-requires
fine_value_at-requires c =
    let pre = c.requires in
    (pre.1, rw c.rate_at.ensures (curve-rate-limit _ pre.0 _), pre.2)
