-- `listing::put_curve_line` meets its contract: its parts, one behind the other.
use Rattle.text.specs.Text.{ascii}
use Rattle.text.proofs.Writing.{and_then}
use Rattle.listing.specs.Listing.{curve_listed}
use Rattle.listing.proofs.put_curve_line.Goals as goal

pub returns-clause-text_written : goal.returns-clause-text_written
unfolding curve_listed ascii
returns-clause-text_written c =
    let named = and_then c.put_number-currency.ensures.text_written c.put_currency-figures.ensures.text_written in
    and_then (and_then named c.put_curve_figures-end.ensures.text_written) c.put_text.ensures
