-- `report_block::put_curves` meets its contract: what is written and what is left to write are together all.
use borrow.Author.Rules.{rules}
use Rattle.margin.specs.Margins.{no_curve}
use Rattle.report_block.specs.Report.{curve_bytes}
use Rattle.report_block.proofs.Records.{records-next, records-none}
use Rattle.report_block.proofs.Report.{length-curve}
use Rattle.report_block.proofs.put_curves.Goals as goal

pub loop-i-preserved : goal.loop-i-preserved
loop-i-preserved c =
    records-next curve_bytes 32 length-curve _ 8 _ 8 no_curve c.loop-i.invariant c.loop-i-test.true c.put_curve.ensures

pub returns : goal.returns
returns c = records-none curve_bytes 32 length-curve _ 8 _ 8 c.loop-i.invariant (search rules)
