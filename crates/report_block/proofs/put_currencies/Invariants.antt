-- `report_block::put_currencies` meets its contract: what is written and what is left to write are together all.
use Rattle.report_block.specs.Report.{currency_bytes}
use Rattle.report_block.proofs.Records.{RecordsLeft}
use Rattle.report_block.proofs.put_currencies.Given as goal

abbrev pub invariant-loop-i : goal.invariant-loop-i
invariant-loop-i l = RecordsLeft currency_bytes 24 l.initial.out 264 l.fn.currencies 3 l.out l.i
