-- `book::block_by_block` meets its contract.
use mathlib.Core.Path.{sym, ◌∙◌}
use native.Mathlib.Omega.{arith}
use Rattle.ground.proofs.Verdicts.{passed-on}
use Rattle.book.proofs.First.{first-passed, first-stopped, first-end}
use Rattle.book.proofs.block_by_block.Goals as goal

pub returns-in_err-block_verdict : goal.returns-in_err-block_verdict
returns-in_err-block_verdict c =
    let l = c.loop-k in
    passed-on c.from_residual.result c.from_residual.ensures.1
    ∙ sym (l.invariant ∙ first-stopped _ l.k _ (omega arith) (sym c.block_verdict.ensures ∙ c.in_err-block_verdict.was))

pub loop-k-preserved : goal.loop-k-preserved
loop-k-preserved c = let l = c.loop-k in l.invariant ∙ first-passed _ l.k _ (omega arith) (sym c.block_verdict.ensures ∙ c.in_ok-block_verdict.was)

pub returns : goal.returns
returns c = sym (c.loop-k.invariant ∙ first-end _ _ _ (omega arith))
