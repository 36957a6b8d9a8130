-- `page::line::put_trade_left` meets its contract: four numbers, one blank apart.
use Rattle.text.specs.Text.{ascii}
use Rattle.text.proofs.Writing.{and_then}
use Rattle.page.specs.Line.{trade_left}
use Rattle.page.proofs.line.put_trade_left.Goals as goal

pub returns-clause-text_written : goal.returns-clause-text_written
unfolding trade_left ascii
returns-clause-text_written c =
    and_then (and_then (and_then c.put_digits-kind.ensures c.put_number-side.ensures.text_written) c.put_number-day.ensures.text_written)
    (rw c.line_day.ensures at c.put_number.ensures.text_written)
