-- `listing::put_curve_lines` meets its contract: what is written and what is left to write are together all.
use Rattle.std.proofs.Common.{◌+◌, arith}
use Rattle.margin.specs.Margins.{no_curve}
use Rattle.text.proofs.Lines.{lines_next, lines_none}
use Rattle.text.proofs.Writing.{text-all, text-next, text-none}
use Rattle.listing.specs.Listing.{curve_listed}
use Rattle.listing.proofs.put_curve_lines.Goals as goal

pub loop-i-init : goal.loop-i-init
loop-i-init c = (omega arith, text-all _ _ _)

pub loop-i-preserved : goal.loop-i-preserved
loop-i-preserved c =
    let i = c.loop-i.i in
    let next = lines_next curve_listed c.args.curves.now i (i + 1) no_curve c.loop-i-test.true in
    let line = c.put_curve_line-next.ensures in
    (omega (arith, line.upper_bound), text-next (rw next at c.loop-i.invariant.1) line.text_written)

pub returns : goal.returns
returns c =
    let i = c.loop-i.i in
    let none = lines_none curve_listed c.args.curves.now i (i + 1) (omega arith) in
    record { text_written = text-none (rw none at c.loop-i.invariant.1); upper_bound = omega arith }
