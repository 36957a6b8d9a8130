-- `report_block::put_currency` meets its contract: its fields, one behind the other.
use borrow.Author.Rules.{rules}
use mathlib.Core.Path.{◌∙◌}
use mir.Syntax.{w64}
use mir.Val.{SFits}
use Rattle.layout.proofs.Signed.{read_back}
use Rattle.report_block.proofs.Report.{currency-put}
use Rattle.report_block.proofs.put_currency.Goals as goal

pub returns : goal.returns
returns c =
    let m = c.args.m in
    let i : SFits w64 m.initial = search rules in
    let v : SFits w64 m.variation = search rules in
    let t : SFits w64 m.total = search rules in
    currency-put _ _ _ _ _ m
    (c.put_signed.ensures ∙ read_back _ _ 8 m.initial i)
    (c.put_signed-2.ensures ∙ read_back _ _ 8 m.variation v)
    (c.put_signed-3.ensures ∙ read_back _ _ 8 m.total t)
