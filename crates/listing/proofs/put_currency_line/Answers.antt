-- `listing::put_currency_line` meets its contract: its parts, one behind the other.
use Rattle.text.specs.Text.{ascii}
use Rattle.text.proofs.Writing.{and_then}
use Rattle.listing.specs.Listing.{currency_listed}
use Rattle.listing.proofs.put_currency_line.Goals as goal

pub returns-clause-text_written : goal.returns-clause-text_written
unfolding currency_listed ascii
returns-clause-text_written c =
    and_then (and_then c.put_currency-figures.ensures.text_written c.put_currency_figures-end.ensures.text_written) c.put_text.ensures
