-- `logarithm::tables::fill_logs` meets its contract. The invariant: each row below i holds its logarithm and its slope, and `log` is that of row i.
use mathlib.Core.Path.{◌≡◌}
use Prim.Native.Nat.{ℕ, ◌<◌}
use lib.ListN.{get_or}
use Rattle.logarithm.specs.Logarithms.{log_of, log_slope}
use Rattle.logarithm.proofs.tables.fill_logs.Given as goal

abbrev pub invariant-loop-i : goal.invariant-loop-i
invariant-loop-i l =
    record {
      next : l.log ≡ log_of l.i;
      rows : (k : ℕ) → k < l.i → get_or l.logs k 0 ≡ log_of k;
      slopes : (k : ℕ) → k < l.i → get_or l.slopes k 0 ≡ log_slope k;
    }
