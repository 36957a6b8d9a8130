-- `mapping::grid::map_days` meets its contract: what is held, with the days left, is all.
use Rattle.mapping.proofs.MappedDays.{Mapping}
use Rattle.mapping.proofs.grid.map_days.Given as goal

abbrev pub invariant-loop-day : goal.invariant-loop-day
invariant-loop-day l = Mapping l.segments l.nets l.days l.mapped l.day-index
