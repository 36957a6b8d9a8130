-- `book::blocks::trades_verdict` meets its contract: ground 7 allows the count of records.
use Rattle.ground.specs.declared.Ground.TheVariants.{TradeBlock}
use Rattle.ground.proofs.Verdicts.{not-broken}
use Rattle.book.proofs.Sound.{traded}
use Rattle.book.proofs.blocks.trades_verdict.Goals as goal

pub records_verdict-requires : goal.records_verdict-requires
records_verdict-requires c =
    (c.requires, (traded _ _ (not-broken TradeBlock c.args.k c.breaks_trade_block.ensures c.refuse_if-3.ensures c.in_ok-refuse_if-3.was)).count.most)
