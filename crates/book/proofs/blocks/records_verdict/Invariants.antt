-- `book::blocks::records_verdict` meets its contract.
use mathlib.Core.Path.{◌≡◌}
use Prim.Native.Nat.{ℕ, ◌-◌}
use Rattle.book.specs.Parts.{record_in, record_count}
use Rattle.book.specs.Verdict.{bytes_verdict, first_of, records_verdict}
use Rattle.book.proofs.blocks.records_verdict.Given as goal

abbrev pub invariant-loop-i : goal.invariant-loop-i
invariant-loop-i l =
    records_verdict l.curves l.b l.k ≡ first_of (λ (j : ℕ). bytes_verdict l.curves (record_in l.b j) l.k) l.i (record_count l.b - l.i)
