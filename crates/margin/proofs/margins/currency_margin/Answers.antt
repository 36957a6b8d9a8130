-- `margin::margins::currency_margin` meets its contract: what is summed and what is left are together all.
use mathlib.Core.Path.{◌∙◌}
use borrow.Author.Rules.{rules}
use Rattle.laws.proofs.Signed.{fits}
use Rattle.margin.specs.Margins.{SumsLimits}
use Rattle.margin.proofs.Currencies.{total_size, code-total, code-figures, summed-next, summed-limits, summed-all}
use Rattle.margin.proofs.margins.currency_margin.Goals as goal
use Rattle.margin.proofs.margins.currency_margin.Goals.{After-loop-m}

pub loop-m-preserved : goal.loop-m-preserved
loop-m-preserved c =
    rw c.with_curve-t.ensures (summed-next _ _ c.requires _ _ c.loop-m.invariant (search rules))

-- what the loop leaves
limits : (c : After-loop-m) → SumsLimits 8 c.loop-m.t
limits c = summed-limits _ _ c.requires _ _ c.loop-m.invariant (search rules)

pub overflow_sub-result : goal.overflow_sub-result
overflow_sub-result c =
    let h = limits (goal.at.overflow_sub-result c).After-loop-m in
    rw (code-total _ h) (fits _ (total_size _ h))

pub returns : goal.returns
returns c =
    code-figures _ (limits (goal.at.returns c).After-loop-m) ∙ summed-all _ _ c.requires _ _ c.loop-m.invariant (search rules)
