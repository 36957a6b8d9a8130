-- `book::block_by_block` meets its contract.
use mathlib.Core.Path.{◌≡◌}
use Prim.Native.Nat.{◌-◌}
use Rattle.book.specs.Verdict.{first_of, block_verdict}
use Rattle.book.proofs.block_by_block.Given as goal

abbrev pub invariant-loop-k : goal.invariant-loop-k
invariant-loop-k l = first_of (block_verdict l.book l.n) 1 (l.n - 1) ≡ first_of (block_verdict l.book l.n) l.k (l.n - l.k)
