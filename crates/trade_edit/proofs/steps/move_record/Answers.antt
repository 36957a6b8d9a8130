-- `trade_edit::steps::move_record` meets its contract.
use Rattle.std.proofs.Common.{◌≡◌, ◌+◌, ◌-◌, take, drop, ◌∙◌, append_assoc, arith}
use Rattle.layout.specs.Bytes.{part}
use Rattle.layout.proofs.Bytes.{put-split, length_part}
use Rattle.trade_edit.proofs.steps.move_record.Goals as goal

pub returns : goal.returns
returns c =
    let a = c.args in
    let s = a.book.now in
    let long = length_part s a.from 56 c.requires.1 in
    let e : a.from + 56 - a.from ≡ 56 = omega arith in
    c.copy_within.ensures.after
    ∙ rw (e, put-split s a.to (part s a.from 56) (omega arith), long) (append_assoc (take a.to s) (part s a.from 56) (drop (a.to + 56) s))
