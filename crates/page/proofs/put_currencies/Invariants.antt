-- `page::put_currencies` meets its contract: what is written and what is left to write are together all.
use Rattle.std.proofs.Common.{◌+◌, drop, take}
use Rattle.text.specs.Text.{lines_of}
use Rattle.text.proofs.Writing.{TextLeft}
use Rattle.page.specs.Page.{currency_part_of}
use Rattle.page.proofs.put_currencies.Given as goal

abbrev pub invariant-loop-i : goal.invariant-loop-i
invariant-loop-i l =
    TextLeft l.initial.out l.at (lines_of (currency_part_of (take l.count l.curves)) 1 l.fn.currencies) l.out l.next (lines_of (currency_part_of (take l.count l.curves)) (l.i + 1) (drop l.i l.fn.currencies))
