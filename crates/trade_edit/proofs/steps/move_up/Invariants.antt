-- `trade_edit::steps::move_up` meets its contract.
use Rattle.std.proofs.Common.{◌≡◌, ◌-◌}
use Rattle.laws.specs.Walk.{run}
use Rattle.trade_edit.specs.Blocks.{record_moved}
use Rattle.trade_edit.proofs.steps.move_up.Given as goal

abbrev pub invariant-loop-i : goal.invariant-loop-i
invariant-loop-i l =
    run (record_moved l.curves) l.position (l.left - l.position) l.initial.book ≡ run (record_moved l.curves) l.i (l.left - l.i) l.book
