-- `estimate::days::list_days` meets its contract: what is listed and what is left are together all.
use Rattle.estimate.proofs.Listing.{Listing}
use Rattle.estimate.proofs.days.list_days.Given as goal

abbrev pub invariant-loop-day : goal.invariant-loop-day
invariant-loop-day l = Listing l.nets l.initial.days l.days l.count l.day
