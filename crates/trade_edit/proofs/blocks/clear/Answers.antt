-- `trade_edit::blocks::clear` meets its contract.
use Rattle.std.proofs.Common.{◌≡◌, ◌+◌, ◌-◌, replicate, arith}
use lib.ListN.{length-replicate}
use Rattle.layout.proofs.Bytes.{put-lent, length_part}
use Rattle.trade_edit.proofs.blocks.clear.Goals as goal

pub returns : goal.returns
returns c =
    let a = c.args in
    let e : a.at + a.n - a.at ≡ a.n = omega arith in
    rw (c.fill.ensures.after (λ y h. h), e, length_part a.s.now a.at a.n c.requires) (put-lent a.s.now a.at a.n (replicate a.n 0) c.requires (length-replicate a.n 0))
