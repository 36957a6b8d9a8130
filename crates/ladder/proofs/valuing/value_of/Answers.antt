-- `ladder::valuing::value_of` meets its contract.
use Rattle.ladder.proofs.KeptFactors.{kept-none}
use Rattle.ladder.proofs.valuing.value_of.Goals as goal

pub total_of-requires : goal.total_of-requires
total_of-requires c =
    let p = c.requires in
    (p.0, p.1, kept-none _)
