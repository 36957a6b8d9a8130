-- `page::put_amounts` meets its contract: three columns, one behind the other.
use Rattle.layout.proofs.Signed.{code_read}
use Rattle.page.proofs.LineWritten.{one-amount, more-amounts}
use Rattle.page.proofs.put_amounts.Goals as goal

pub returns-clause-text_written : goal.returns-clause-text_written
returns-clause-text_written c =
    let a = rw (code_read _ c.ranges.first) at c.put_amount-next.ensures.text_written in
    let b = rw (code_read _ c.ranges.second) at c.put_amount-last.ensures.text_written in
    let d = rw (code_read _ c.ranges.third) at c.put_amount.ensures.text_written in
    more-amounts _ _ a (more-amounts _ _ b (one-amount _ d))
