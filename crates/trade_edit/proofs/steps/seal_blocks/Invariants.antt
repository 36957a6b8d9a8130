-- `trade_edit::steps::seal_blocks` meets its contract.
use Rattle.std.proofs.Common.{◌≡◌, ◌-◌}
use Rattle.laws.specs.Walk.{run}
use Rattle.trade_edit.specs.Blocks.{block_sealed}
use Rattle.trade_edit.proofs.steps.seal_blocks.Given as goal

abbrev pub invariant-loop-k : goal.invariant-loop-k
invariant-loop-k l =
    run block_sealed l.from (l.to - l.from) l.initial.book ≡ run block_sealed l.k (l.to - l.k) l.book
