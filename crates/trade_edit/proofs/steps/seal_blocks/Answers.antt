-- `trade_edit::steps::seal_blocks` meets its contract.
use Rattle.std.proofs.Common.{◌+◌, ◌-◌, ◌*◌, sym, ◌∙◌, ap, arith}
use native.Mathlib.Nat.{add-sub_cancel_left}
use Rattle.laws.specs.Walk.{run}
use Rattle.laws.proofs.Walk.{run_step, run_end}
use Rattle.layout.specs.Check.{sealed}
use Rattle.layout.proofs.Sealed.{length-sealed}
use Rattle.trade_edit.specs.Blocks.{block_sealed}
use Rattle.trade_edit.proofs.StepLaws.{block-left}
use Rattle.trade_edit.proofs.steps.seal_blocks.Goals as goal

pub loop-k-preserved : goal.loop-k-preserved
loop-k-preserved c =
    let k = c.loop-k.k in
    let book = c.loop-k.book in
    let done = block-left sealed length-sealed book (k * 512) (omega arith) (rw add-sub_cancel_left at c.seal.ensures) in
    c.loop-k.invariant
    ∙ run_step block_sealed k c.args.to book c.loop-k-test.true
    ∙ rw add-sub_cancel_left (ap (run block_sealed (k + 1) (c.args.to - (k + 1))) (sym done))

pub returns : goal.returns
returns c = sym (c.loop-k.invariant ∙ run_end block_sealed _ _ _ c.loop-k-test.false)
