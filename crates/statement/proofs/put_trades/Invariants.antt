-- `statement::put_trades` meets its contract: what is written and what is left to write are together all.
use lib.ListN.{drop}
use Rattle.book.specs.Parts.{records}
use Rattle.text.specs.Text.{lines_of}
use Rattle.text.proofs.Writing.{TextLeft}
use Rattle.page.specs.Line.{record_line}
use Rattle.statement.proofs.put_trades.Given as goal

abbrev pub invariant-loop-i : goal.invariant-loop-i
invariant-loop-i l =
    TextLeft l.initial.out l.at (lines_of record_line 0 (records l.book)) l.out l.next (lines_of record_line l.i (drop l.i (records l.book)))
