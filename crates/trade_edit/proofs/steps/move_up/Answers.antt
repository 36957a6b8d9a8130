-- `trade_edit::steps::move_up` meets its contract.
use Rattle.std.proofs.Common.{sym, ◌∙◌, arith}
use Rattle.laws.proofs.Walk.{run_step, run_end}
use Rattle.trade_edit.specs.Blocks.{record_moved}
use Rattle.trade_edit.proofs.steps.move_up.Goals as goal

pub loop-i-preserved : goal.loop-i-preserved
unfolding record_moved
loop-i-preserved c =
    let l = c.loop-i in
    l.invariant
    ∙ run_step (record_moved _) l.i c.args.left l.book (omega arith)
    ∙ rw (c.move_record.ensures, c.place_of-in-loop-i.ensures, c.place_of.ensures)

pub returns : goal.returns
returns c =
    rw (← c.curve_count-curves.ensures.value) (sym (c.loop-i.invariant ∙ run_end (record_moved _) _ _ _ c.loop-i-test.false))
