-- `estimate::days::list_days` meets its contract: what is listed and what is left are together all.
use native.Mathlib.Omega.{arith}
use borrow.Author.Rules.{rules}
use lib.IntN.{pos}
use lib.ListN.{get_or}
use mir.Syntax.{w64}
use mir.Val.{SFits}
use Rattle.estimate.proofs.Listing.{listing-next, listing-all}
use Rattle.estimate.proofs.days.list_days.Goals as goal

pub loop-day-preserved : goal.loop-day-preserved
loop-day-preserved c =
    let f : SFits w64 (get_or c.args.nets.now c.loop-day.day (pos 0)) = search rules in
    listing-next _ _ _ _ _ c.loop-day.invariant c.loop-day-test.true c.requires.0 f.sfits _ c.from-count.ensures

pub returns-clause-list : goal.returns-clause-list
returns-clause-list c =
    let h = c.loop-day.invariant in
    (omega (arith, h.most, h.within), listing-all _ _ _ _ _ h (omega arith))
