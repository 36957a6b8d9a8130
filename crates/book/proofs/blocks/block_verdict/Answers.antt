-- `book::blocks::block_verdict` meets its contract.
use mathlib.Core.Path.{◌≡◌, ap, ◌∙◌}
use native.Mathlib.Omega.{arith}
use Rattle.record.specs.declared.Curves.{Curves}
use Rattle.book.specs.Parts.{curve_count}
use Rattle.book.proofs.Places.{curves-count}
use Rattle.book.proofs.Verdicts.{curve-place, trade-place}
use Rattle.book.proofs.blocks.block_verdict.Goals as goal
use Rattle.book.proofs.blocks.block_verdict.Goals.{Start}

-- the count of the curves that are handed on is the header's
curves-counted : (s : Start) → s.args.curves.count ≡ curve_count s.args.book.now
curves-counted s = ap (λ (x : Curves). x.count) s.requires.curves_value ∙ curves-count s.args.book.now

pub returns-then-number-curves : goal.returns-then-number-curves
returns-then-number-curves c =
    let count = curves-counted (goal.at.returns-then-number-curves c).Start in
    rw (curve-place c.args.book.now c.args.n c.args.k (omega arith) (omega arith), ← c.block_at-b.ensures.result_value)
    c.curve_verdict.ensures

pub returns : goal.returns
returns c =
    let count = curves-counted (goal.at.returns c).Start in
    rw (trade-place c.args.book.now c.args.n c.args.k (omega arith) (omega arith), ← c.block_at-b.ensures.result_value, ← c.requires.curves_value)
    c.trades_verdict.ensures
