-- `book::blocks::records_verdict` meets its contract.
use mathlib.Core.Path.{◌≡◌, sym, ◌∙◌}
use native.Mathlib.Nat.{sub-zero}
use native.Mathlib.Omega.{arith}
use Rattle.ground.proofs.Verdicts.{passed-on}
use Rattle.book.specs.Parts.{record_in}
use Rattle.book.specs.Verdict.{bytes_verdict, records_verdict}
use Rattle.book.proofs.First.{first-passed, first-stopped, first-end}
use Rattle.book.proofs.blocks.records_verdict.Goals as goal
use Rattle.book.proofs.blocks.records_verdict.Goals.{After-record_verdict}

pub loop-i-init : goal.loop-i-init
unfolding records_verdict
loop-i-init c = rw sub-zero

-- a turn: the record's verdict, in the contract's terms
module _ (c : After-record_verdict) where
  judged : bytes_verdict c.args.curves (record_in c.args.b.now c.loop-i.i) c.args.k ≡ c.record_verdict.result
  judged = sym (rw (c.fields_of.ensures, c.record_in.ensures.result_value) at c.record_verdict.ensures)

pub returns-in_err-record_verdict : goal.returns-in_err-record_verdict
returns-in_err-record_verdict c =
    let l = c.loop-i in
    let e = judged (goal.at.returns-in_err-record_verdict c).After-record_verdict ∙ c.in_err-record_verdict.was in
    passed-on c.from_residual.result c.from_residual.ensures.1 ∙ sym (l.invariant ∙ first-stopped _ l.i _ (omega arith) e)

pub loop-i-preserved : goal.loop-i-preserved
loop-i-preserved c =
    let l = c.loop-i in
    l.invariant ∙ first-passed _ l.i _ (omega arith) (judged (goal.at.loop-i-preserved c).After-record_verdict ∙ c.in_ok-record_verdict.was)

pub returns : goal.returns
returns c = sym (c.loop-i.invariant ∙ first-end _ _ _ (omega arith))
