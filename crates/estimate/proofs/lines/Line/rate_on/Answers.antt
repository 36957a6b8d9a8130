-- `estimate::lines::Line::rate_on` meets its contract.
use Rattle.estimate.specs.Lines.{line_scale, rate_on}
use Rattle.estimate.proofs.LineCode.{code-stands, stands_read}
use Rattle.estimate.proofs.lines.Line.rate_on.Goals as goal
use Rattle.estimate.proofs.lines.Line.rate_on.Goals.{After-struct_told-2-1, Start}

pub returns : goal.returns
unfolding rate_on line_scale
returns c = let d = c.requires in rw (code-stands _ _ d, stands_read _ _ d)
