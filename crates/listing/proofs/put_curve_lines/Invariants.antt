-- `listing::put_curve_lines` meets its contract: what is written and what is left to write are together all.
use Rattle.std.proofs.Common.{◌+◌, ◌*◌, ◌≤◌, drop}
use Rattle.text.specs.Text.{lines_of}
use Rattle.text.proofs.Writing.{TextLeft}
use Rattle.listing.specs.Listing.{curve_listed}
use Rattle.listing.proofs.put_curve_lines.Given as goal

abbrev pub invariant-loop-i : goal.invariant-loop-i
invariant-loop-i l =
    (l.next ≤ l.at + 144 * l.i)
    × TextLeft l.initial.out l.at (lines_of curve_listed 1 l.curves) l.out l.next (lines_of curve_listed (l.i + 1) (drop l.i l.curves))
