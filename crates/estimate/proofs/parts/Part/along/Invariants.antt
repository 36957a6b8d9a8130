-- `estimate::parts::Part::along` meets its contract: what is valued and what is left are together all.
use Prim.Native.Nat.{◌+◌}
use Rattle.estimate.proofs.LineDays.{Going}
use Rattle.estimate.proofs.parts.Part.along.Given as goal

abbrev pub invariant-loop-day : goal.invariant-loop-day
invariant-loop-day l =
    Going l.line l.end l.nets l.days l.fn.self (record { done = l.fn.self.done + l.day-index; value = l.value })
