-- The powers are those by the counter.
use Rattle.discount.proofs.daily.run.Given as goal

abbrev pub invariant-loop : goal.invariant-loop
invariant-loop g l = g.P.Powers.stand_at l.of l.counter l.powers
