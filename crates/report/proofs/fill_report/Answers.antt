-- `report::fill_report` meets its contract.
use mathlib.Core.Path.{sym, ◌∙◌}
use Rattle.ground.proofs.Verdicts.{passed-on}
use Rattle.report.proofs.Answers.{space-judged, space, filled}
use Rattle.report.proofs.fill_report.Goals as goal

pub returns-in_err-refuse_if : goal.returns-in_err-refuse_if
returns-in_err-refuse_if c =
    let judged = space-judged _ c.refuse_if.ensures c.breaks_space.ensures ∙ c.in_err-refuse_if.was in
    record { value = passed-on c.from_residual.result c.from_residual.ensures.1 ∙ sym judged; out_after = rw judged }

pub write_report-requires : goal.write_report-requires
write_report-requires c = space c.args.book.now c.args.out.now (space-judged _ c.refuse_if.ensures c.breaks_space.ensures ∙ c.in_ok-refuse_if.was)

pub returns : goal.returns
returns c =
    let judged = space-judged _ c.refuse_if.ensures c.breaks_space.ensures ∙ c.in_ok-refuse_if.was in
    record { value = sym judged; out_after = filled c.args.book.now c.args.out.now c.margin_of_book.result judged c.margin_of_book.ensures c.write_report.ensures }
