-- `trade_edit::steps::grow` meets its contract.
use native.Mathlib.Omega.{arith}
use Rattle.trade_edit.proofs.StepLaws.{grow-left}
use Rattle.trade_edit.proofs.steps.grow.Goals as goal

pub returns : goal.returns
returns c =
    grow-left c.args.book.now c.args.used c.args.r (omega (arith, c.requires))
    c.trade_blocks-blocks.ensures.value
    c.bare_block-b.ensures
    c.put_record.ensures
    c.copy_in.ensures
    c.put_trade_blocks.ensures
