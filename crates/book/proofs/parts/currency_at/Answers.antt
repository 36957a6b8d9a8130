-- `book::parts::currency_at` meets its contract.
use Rattle.book.proofs.Places.{curve-block, no-curve-block}
use Rattle.book.proofs.parts.currency_at.Goals as goal

pub returns-then-curve_count-k : goal.returns-then-curve_count-k
returns-then-curve_count-k c = let h = c.if-curve_count-k.true in rw (no-curve-block _ _ (rw c.curve_count.ensures.value at h))

pub returns : goal.returns
returns c = let h = c.if-curve_count-k.false in
    rw (c.currency_of.ensures, c.block_at.ensures.result_value, curve-block _ _ (rw c.curve_count.ensures.value at h))
