-- `book::parts::record_at` meets its contract.
use mathlib.Core.Path.{◌∙◌}
use Rattle.book.specs.Parts.{record_at}
use Rattle.layout.proofs.Bytes.{put_whole}
use Rattle.book.proofs.parts.record_at.Goals as goal

pub returns : goal.returns
unfolding record_at
returns c =
    c.copy_in.ensures
    ∙ put_whole _ _ c.record_in.ensures.result_len
    ∙ rw (
      c.record_in.ensures.result_value,
      c.block_at-b.ensures.result_value,
      c.curve_count.ensures.value,
    )
