-- `text::put_signed` meets its contract: a word, and the number right behind it.
use Rattle.layout.proofs.Signed.{code_read}
use Rattle.text.proofs.Writing.{and_then}
use Rattle.text.proofs.put_signed.Goals as goal

pub returns-clause-text_written : goal.returns-clause-text_written
returns-clause-text_written c =
    and_then c.put_text-from.ensures (rw (code_read _ c.ranges.v) at c.put_integer.ensures.text_written)
