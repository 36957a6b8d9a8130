-- `text::put_currency` meets its contract: a word, and the letters right behind it.
use Rattle.text.proofs.Writing.{and_then}
use Rattle.text.proofs.put_currency.Goals as goal

pub returns-clause-text_written : goal.returns-clause-text_written
returns-clause-text_written c = and_then c.put_text-from.ensures c.put_letters.ensures.text_written
