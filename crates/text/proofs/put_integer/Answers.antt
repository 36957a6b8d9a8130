-- `text::put_integer` meets its contract.
use Rattle.layout.proofs.Signed.{code_read, natural-of}
use Rattle.text.specs.Text.{decimal_of}
use Rattle.text.proofs.Digits.{sign-negative, sign-natural}
use Rattle.text.proofs.Writing.{written_byte, and_then}
use Rattle.text.proofs.put_integer.Goals as goal

pub returns-then-v-lt0-clause-text_written : goal.returns-then-v-lt0-clause-text_written
returns-then-v-lt0-clause-text_written c =
    let v = c.ranges.v in
    let size_is = rw (code_read _ v) at c.size_of-size.ensures.value in
    let digits = rw size_is at c.put_digits.ensures in
    rw (sign-negative decimal_of _ (rw (code_read _ v) at c.if-v-lt0.true)) (and_then (written_byte c.args.out.now c.args.at 45) digits)

pub returns-clause-text_written : goal.returns-clause-text_written
returns-clause-text_written c =
    let v = c.ranges.v in
    let size_is = rw (code_read _ v) at c.size_of-size.ensures.value in
    rw (sign-natural decimal_of _ (natural-of _ v c.if-v-lt0.false).0) (rw size_is at c.put_digits-2.ensures)
