-- `screening::least::least_of` meets its contract: of the values passed, the least is held.
use Rattle.screening.specs.Screening.{Least}
use Rattle.screening.proofs.least.least_of.Given as goal

abbrev pub invariant-loop-s : goal.invariant-loop-s
invariant-loop-s l = Least l.values l.s l.least
