-- `report_block::put_curves` meets its contract: what is written and what is left to write are together all.
use Rattle.report_block.specs.Report.{curve_bytes}
use Rattle.report_block.proofs.Records.{RecordsLeft}
use Rattle.report_block.proofs.put_curves.Given as goal

abbrev pub invariant-loop-i : goal.invariant-loop-i
invariant-loop-i l = RecordsLeft curve_bytes 32 l.initial.out 8 l.fn.curves 8 l.out l.i
