-- `layout::check::check_of` meets its contract. The loop's invariant: the sum is that of the words passed.
use Rattle.std.proofs.Common.{◌≡◌}
use Rattle.layout.specs.Check.{words}
use Rattle.layout.proofs.check.check_of.Given as goal

abbrev pub invariant-loop-i : goal.invariant-loop-i
invariant-loop-i l = l.sum ≡ words l.b l.i
