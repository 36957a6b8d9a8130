-- `page::put_curve_left` meets its contract: its parts, one behind the other.
use Rattle.text.specs.Text.{ascii}
use Rattle.text.proofs.Writing.{and_then}
use Rattle.page.specs.Page.{curve_left}
use Rattle.page.proofs.put_curve_left.Goals as goal

pub returns-clause-text_written : goal.returns-clause-text_written
unfolding curve_left ascii
returns-clause-text_written c =
    and_then (and_then c.put_digits-scenario.ensures c.put_number-currency.ensures.text_written) c.put_currency.ensures.text_written
