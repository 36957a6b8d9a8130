-- `ladder::valuing::known_value` meets its contract.
use Rattle.curve.proofs.Rates.{curve-rate-limit}
use Rattle.ladder.proofs.KeptFactors.{bracket-kept, kept-with}
use Rattle.ladder.proofs.valuing.known_value.Goals as goal

pub bracket_at-b-requires : goal.bracket_at-b-requires
bracket_at-b-requires c =
    (rw c.rate_at.ensures (curve-rate-limit _ c.requires.0 _), c.requires.1.day)

pub returns-clause-kept_factors : goal.returns-clause-kept_factors
returns-clause-kept_factors c =
    let e = c.bracket_at-b.ensures in
    let between = rw c.rate_at.ensures at e.between in
    kept-with _ _ c.requires.2 (bracket-kept _ _ c.entry_of.ensures.0 c.entry_of.ensures.1 e.limits between)
