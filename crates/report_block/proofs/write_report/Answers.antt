-- `report_block::write_report` meets its contract.
use borrow.Author.Rules.{rules}
use Rattle.laws.proofs.Arrays.{length-mapped}
use Rattle.report_block.proofs.Report.{Places, report-put}
use Rattle.report_block.proofs.write_report.Goals as goal

pub returns : goal.returns
returns c =
    let m = c.args.m in
    let places : Places m = record { curves = search (rules, length-mapped); currencies = search (rules, length-mapped) } in
    rw c.seal.ensures (report-put c.args.out.now _ m places c.requires c.put_fields.ensures)
