-- `listing::put_currency_lines` meets its contract: what is written and what is left to write are together all.
use Prim.Native.Nat.{◌+◌, ◌*◌, ◌≤◌}
use lib.ListN.{take, drop}
use Rattle.text.specs.Text.{lines_of}
use Rattle.text.proofs.Writing.{TextLeft}
use Rattle.listing.specs.Listing.{currency_listed_in}
use Rattle.listing.proofs.put_currency_lines.Given as goal

abbrev pub invariant-loop-i : goal.invariant-loop-i
invariant-loop-i l =
    (l.next ≤ l.at + 100 * l.i)
    × TextLeft l.initial.out l.at (lines_of (currency_listed_in (take l.count l.curves)) 1 l.fn.currencies) l.out l.next (lines_of (currency_listed_in (take l.count l.curves)) (l.i + 1) (drop l.i l.fn.currencies))
