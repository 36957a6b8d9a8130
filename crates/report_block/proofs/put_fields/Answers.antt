-- `report_block::put_fields` meets its contract: the parts, one behind the other.
use borrow.Author.Rules.{rules}
use Rattle.laws.proofs.Arrays.{length-mapped}
use Rattle.report_block.proofs.Report.{Places, fields-put}
use Rattle.report_block.proofs.put_fields.Goals as goal

pub returns : goal.returns
returns c =
    let m = c.args.m in
    let places : Places m = record { curves = search (rules, length-mapped); currencies = search (rules, length-mapped) } in
    fields-put _ _ _ _ _ _ m places
    c.put_le.ensures
    c.put_le-2.ensures
    c.put_curves.ensures
    c.put_currencies.ensures
    c.put_le-3.ensures
