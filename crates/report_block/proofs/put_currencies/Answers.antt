-- `report_block::put_currencies` meets its contract: what is written and what is left to write are together all.
use borrow.Author.Rules.{rules}
use Rattle.margin.specs.Margins.{no_currency}
use Rattle.report_block.specs.Report.{currency_bytes}
use Rattle.report_block.proofs.Records.{records-next, records-none}
use Rattle.report_block.proofs.Report.{length-currency}
use Rattle.report_block.proofs.put_currencies.Goals as goal

pub loop-i-preserved : goal.loop-i-preserved
loop-i-preserved c =
    records-next currency_bytes 24 length-currency _ 264 _ 3 no_currency c.loop-i.invariant c.loop-i-test.true c.put_currency.ensures

pub returns : goal.returns
returns c = records-none currency_bytes 24 length-currency _ 264 _ 3 c.loop-i.invariant (search rules)
