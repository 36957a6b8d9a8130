-- `report::margin` meets its contract, by those of `check` and `fill_report`.
use mathlib.Core.Path.{sym, ◌∙◌}
use Rattle.ground.proofs.Verdicts.{passed-on}
use Rattle.acceptance.proofs.Laws.{book-accepted}
use Rattle.report.proofs.Answers.{refused-book, accepted-book-reported}
use Rattle.report.proofs.Demand.{demand-met}
use Rattle.report.proofs.margin.Goals as goal

pub returns-in_err-check : goal.returns-in_err-check
returns-in_err-check c =
    let a = c.args in
    let p = refused-book a.book.now a.used a.day a.out.now _ (sym c.check.ensures ∙ c.in_err-check.was) in
    let answer = passed-on c.from_residual.result c.from_residual.ensures.1 ∙ p.0 in
    record { value = answer; out_after = p.1; bounded = demand-met a.book.now a.used a.day a.out.now answer p.1 }

pub fill_report-requires : goal.fill_report-requires
fill_report-requires c = record { used = _; accepted = (book-accepted _ _ _ (sym c.check.ensures ∙ c.in_ok-check.was)).blocks }

pub returns : goal.returns
returns c =
    let a = c.args in
    let p = c.fill_report.ensures in
    let then = accepted-book-reported a.book.now a.used a.day a.out.now (sym c.check.ensures ∙ c.in_ok-check.was) in
    let answer = p.value ∙ sym then.0 in
    let written = p.out_after ∙ sym then.1 in
    record { value = answer; out_after = written; bounded = demand-met a.book.now a.used a.day a.out.now answer written }
