-- `report::margin_of_book` meets its contract: either ladder has room for three legs of each trade.
use Prim.Native.Nat.{ℕ}
use native.Mathlib.Omega.{arith}
use lib.ListN.{length-replicate}
use Rattle.book.proofs.Accepted.{Sound, sound, trade-count-most}
use Rattle.report.proofs.margin_of_book.Goals as goal
use Rattle.report.proofs.margin_of_book.Goals.{Start}

-- at the entry: the book is sound
here : (s : Start) → Sound s.args.book.now s.requires.used
here s = sound s.args.book.now s.requires.used s.requires.accepted

pub trade_count-requires : goal.trade_count-requires
trade_count-requires c = let b = here (goal.at.trade_count-requires c).Start in omega (arith, b.blocks, b.lent)

pub margin_with-requires : goal.margin_with-requires
margin_with-requires c =
    (c.requires, omega (arith, c.if-trade_count-le9.true, c.trade_count.ensures, length-replicate {A = ℕ} 162 0))

pub margin_with-requires-2 : goal.margin_with-requires-2
margin_with-requires-2 c =
    (c.requires, omega (arith, trade-count-most _ _ (here (goal.at.margin_with-requires-2 c).Start), length-replicate {A = ℕ} 20412 0))
