-- `book::rules::breaks_trade_block` meets its contract: past the test of the count it is at most 9.
use mathlib.Core.Path.{sym, ◌∙◌}
use native.Mathlib.Omega.{arith}
use Rattle.book.proofs.Sound.{Counted, counted}
use Rattle.book.proofs.rules.breaks_trade_block.Goals as goal
use Rattle.book.proofs.rules.breaks_trade_block.Goals.{Then-count_fits}

few : (c : Then-count_fits) → Counted c.record_count-n.result c.args.last
few c = counted _ _ (sym c.count_fits.ensures ∙ c.if-count_fits.true)

pub record_place-requires : goal.record_place-requires
record_place-requires c = (few c).most

pub zeros-requires : goal.zeros-requires
zeros-requires c = let f = few (goal.at.zeros-requires c).Then-count_fits in (omega arith, omega arith)
