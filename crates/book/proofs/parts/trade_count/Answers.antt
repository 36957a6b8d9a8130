-- `book::parts::trade_count` meets its contract.
use borrow.Author.Tests.{eq-eqb, ne_eqb}
use Rattle.book.specs.Parts.{trade_count}
use Rattle.book.proofs.parts.trade_count.Goals as goal

pub returns-then-blocks-eq0 : goal.returns-then-blocks-eq0
unfolding trade_count
returns-then-blocks-eq0 c = rw (← c.trade_blocks-blocks.ensures.value, eq-eqb c.trade_blocks-blocks.result 0 c.if-blocks-eq0.true)

pub returns : goal.returns
unfolding trade_count
returns c =
    rw (
      ← c.trade_blocks-blocks.ensures.value,
      ne_eqb c.trade_blocks-blocks.result 0 c.if-blocks-eq0.false,
      ← c.curve_count.ensures.value,
      ← c.block_at-last.ensures.result_value,
      c.record_count.ensures.value,
    )
