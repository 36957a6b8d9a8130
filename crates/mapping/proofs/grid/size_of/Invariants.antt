-- `mapping::grid::size_of` meets its contract: what is added up, with the days left, is all.
use Rattle.mapping.proofs.MappedDays.{Adding}
use Rattle.mapping.proofs.grid.size_of.Given as goal

abbrev pub invariant-loop-day : goal.invariant-loop-day
invariant-loop-day l = Adding l.nets l.days l.sum l.day-index
