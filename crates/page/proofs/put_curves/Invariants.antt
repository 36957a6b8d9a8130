-- `page::put_curves` meets its contract: what is written and what is left to write are together all.
use Rattle.std.proofs.Common.{◌+◌, drop, take}
use Rattle.text.specs.Text.{lines_of}
use Rattle.text.proofs.Writing.{TextLeft}
use Rattle.page.specs.Page.{curve_line}
use Rattle.page.proofs.put_curves.Given as goal

abbrev pub invariant-loop-i : goal.invariant-loop-i
invariant-loop-i l =
    TextLeft l.initial.out l.at (lines_of curve_line 1 (take l.count l.fn.curves)) l.out l.next (lines_of curve_line (l.i + 1) (drop l.i (take l.count l.fn.curves)))
