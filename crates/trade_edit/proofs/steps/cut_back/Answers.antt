-- `trade_edit::steps::cut_back` meets its contract.
use Rattle.std.proofs.Common.{◌≡◌, ℕ, List, ◌-◌, ◌%◌, set, length-set, ◌∙◌, arith}
use Rattle.book.specs.Encode.{blocks_for}
use Rattle.trade_edit.specs.Blocks.{with_trade_blocks, cut_back}
use Rattle.trade_edit.proofs.StepLaws.{length-with_trade_blocks, block-left}
use Rattle.trade_edit.proofs.steps.cut_back.Goals as goal

pub returns : goal.returns
unfolding cut_back
returns c =
    let counts = set c.clear.new.s (c.args.used - 511) (c.args.n % 9) in
    let blocks : c.div_ceil.result ≡ blocks_for c.args.n = omega (arith, c.div_ceil.ensures) in
    block-left (λ (b : List ℕ). with_trade_blocks b (blocks_for c.args.n)) (length-with_trade_blocks (blocks_for c.args.n)) counts 0
    (rw length-set (omega (arith, c.clear.auto.s, c.requires.1)))
    (rw blocks at c.put_trade_blocks.ensures)
    ∙ rw (c.clear.ensures, c.end_of-end.ensures, c.curve_count.ensures.value)
