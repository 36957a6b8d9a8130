-- `logarithm::tables::fill_powers` meets its contract. The invariant: x is the power that is next, and each place passed holds its row;
-- and the arrays keep their lengths.
use mathlib.Core.Path.{◌≡◌}
use Prim.Native.Nat.{ℕ, ◌<◌}
use lib.ListN.{length, get_or}
use Rattle.logarithm.specs.Logarithms.{chain, power_row, short_row}
use Rattle.logarithm.proofs.tables.fill_powers.Given as goal

abbrev pub invariant-loop-i : goal.invariant-loop-i
invariant-loop-i g l =
    record {
      places : (length l.rows ≡ g.row.N) × (length l.shorts ≡ g.row.N);
      next : l.x ≡ chain l.base l.i;
      rows : (k : ℕ) → k < l.i → get_or l.rows k 0 ≡ power_row l.base k;
      shorts : (k : ℕ) → k < l.i → get_or l.shorts k 0 ≡ short_row l.base k;
    }
