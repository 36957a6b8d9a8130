-- `margin::margins::has_currency` meets its contract.
use mathlib.Core.Path.{◌∙◌}
use lib.ListN.{take}
use lib.Dec.{eqb}
use Rattle.std.proofs.Common.{rules, tests}
use Rattle.std.proofs.lemmas.Iterator.{YieldsList-from_slice}
use Rattle.std.proofs.lemmas.Iterator.Search.{any_from_yields_List}
use Rattle.margin.specs.declared.CurveMargin.{CurveMargin}
use Rattle.margin.proofs.Currencies.{has-any}
use Rattle.margin.proofs.margins.has_currency.Goals as goal

pub returns : goal.returns
returns c =
    let shown = take c.args.count c.args.curves in
    any_from_yields_List (λ (m : CurveMargin). eqb m.currency c.args.currency) _ _ c.any.result c.any.ensures.ran (YieldsList-from_slice shown cc) (λ x b q k. search (rules, tests))
    ∙ has-any c.args.currency shown
