-- `statement::statement` meets its contract, by those of `check` and `fill_page`.
use mathlib.Core.Path.{sym, ◌∙◌}
use Rattle.ground.proofs.Verdicts.{passed-on}
use Rattle.acceptance.proofs.Laws.{book-accepted}
use Rattle.statement.proofs.Answers.{refused-statement, accepted-statement}
use Rattle.statement.proofs.statement.Goals as goal

pub returns-in_err-check : goal.returns-in_err-check
returns-in_err-check c =
    let a = c.args in
    let p = refused-statement a.book.now a.used a.day a.out.now _ (sym c.check.ensures ∙ c.in_err-check.was) in
    record { value = passed-on c.from_residual.result c.from_residual.ensures.1 ∙ p.0; out_after = p.1 }

pub fill_page-requires : goal.fill_page-requires
fill_page-requires c = record { used = _; accepted = (book-accepted _ _ _ (sym c.check.ensures ∙ c.in_ok-check.was)).blocks }

pub returns : goal.returns
returns c =
    let a = c.args in
    let p = c.fill_page.ensures in
    let then = accepted-statement a.book.now a.used a.day a.out.now (sym c.check.ensures ∙ c.in_ok-check.was) in
    record { value = p.value ∙ sym then.0; out_after = p.out_after ∙ sym then.1 }
