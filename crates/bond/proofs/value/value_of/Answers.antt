-- `bond::value::value_of` meets its contract.
use Rattle.bond.proofs.Values.{rate-most}
use Rattle.bond.proofs.value.value_of.Goals as goal

pub present_value-requires : goal.present_value-requires
present_value-requires c =
    (c.requires.1, rw c.rate_at.ensures (rate-most _ _ c.requires.0))
