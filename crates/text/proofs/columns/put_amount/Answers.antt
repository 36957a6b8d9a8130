-- `text::columns::put_amount` meets its contract.
use Rattle.layout.proofs.Signed.{code_read}
use Rattle.text.proofs.columns.put_amount.Goals as goal

pub returns : goal.returns
returns c =
    let wrote = c.before.before in
    let start = wrote.before.before.before in
    rw (code_read _ start.ranges.v) at wrote.put_right_aligned.ensures
