-- `ladder::kept::entry_of` meets its contract.
use Rattle.ladder.proofs.KeptFactors.{bracket-read}
use Rattle.ladder.proofs.kept.entry_of.Goals as goal

pub returns : goal.returns
returns c = let s = c.before.before in bracket-read s.args.b s.requires
