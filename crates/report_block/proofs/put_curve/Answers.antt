-- `report_block::put_curve` meets its contract: its fields, one behind the other.
use borrow.Author.Rules.{rules}
use mathlib.Core.Path.{◌∙◌}
use mir.Syntax.{w64}
use mir.Val.{SFits}
use Rattle.layout.proofs.Signed.{read_back}
use Rattle.report_block.proofs.Report.{curve-put}
use Rattle.report_block.proofs.put_curve.Goals as goal

pub returns : goal.returns
returns c =
    let m = c.args.m in
    let b : SFits w64 m.base = search rules in
    let w : SFits w64 m.worstloss = search rules in
    curve-put _ _ _ _ _ _ _ m
    (c.put_signed.ensures ∙ read_back _ _ 8 m.base b)
    (c.put_signed-2.ensures ∙ read_back _ _ 8 m.worstloss w)
    c.put_le.ensures
    c.put_le-2.ensures
    c.put_le-3.ensures
