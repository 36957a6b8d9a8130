-- `margin::margins::Sums::with_curve` meets its contract.
use mathlib.Core.Path.{sym, ◌∙◌}
use Rattle.laws.proofs.Signed.{fits}
use Rattle.margin.proofs.Currencies.{plus-other, plus-same, initial-size, variation-size, code-initial, code-variation, code-sums}
use Rattle.margin.proofs.margins.Sums.with_curve.Goals as goal

pub returns-then-m-currency : goal.returns-then-m-currency
returns-then-m-currency c = plus-other _ _ _ c.if-m-currency.true

pub overflow_add-result : goal.overflow_add-result
overflow_add-result c =
    let p = c.requires in
    rw (code-initial _ _ p) (fits _ (initial-size _ _ p))

pub overflow_add-result-2 : goal.overflow_add-result-2
overflow_add-result-2 c =
    let p = c.requires in
    rw (code-variation _ _ p) (fits _ (variation-size _ _ p))

pub returns : goal.returns
returns c =
    code-sums _ _ c.requires ∙ sym (plus-same _ _ _ c.if-m-currency.false)
