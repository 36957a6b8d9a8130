-- `book::parts::curves_of` meets its contract.
use mathlib.Core.Path.{◌≡◌}
use mathlib.Core.List.{[]}
use Prim.Native.Nat.{ℕ, ◌<◌}
use lib.ListN.{length, get_or}
use Rattle.curve_block.specs.Parts.{currency_of}
use Rattle.book.specs.Parts.{curve_blocks}
use Rattle.book.proofs.parts.curves_of.Given as goal

abbrev pub invariant-loop-k : goal.invariant-loop-k
invariant-loop-k l =
    record {
      long : length l.currency ≡ 8;
      read : (j : ℕ) → j < l.k → get_or l.currency j 0 ≡ currency_of (get_or (curve_blocks l.book) j []);
    }
