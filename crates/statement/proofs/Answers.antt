-- The statement entry's answer and bytes, by what was found.
use mathlib.Core.Path.{◌≡◌, refl}
use mathlib.Core.List.{List}
use Prim.Native.Nat.{ℕ}
use lib.ListN.{length}
use Rattle.std.specs.Prelude.{Err, Ok, Some}
use Rattle.ground.specs.declared.Refusal.{Refusal}
use Rattle.ground.specs.Verdicts.{or_else, bytes_after}
use Rattle.acceptance.specs.Verdict.{book_verdict}
use Rattle.text.specs.Text.{in_front}
use Rattle.statement.specs.Entry.{page_of, page_verdict, statement_verdict, statement_answer, statement_bytes}

module _ (s : List ℕ) (used day : ℕ) (out : List ℕ) where
  -- the book is refused
  pub refused-statement : (r : Refusal) → book_verdict s used (Some day) ≡ Err r → (Err r ≡ statement_answer s used day (length out)) × (out ≡ statement_bytes s used day out)
  unfolding statement_verdict statement_answer statement_bytes
  refused-statement r e = (rw e refl, rw e refl)

  -- or accepted, and then it is up to the space
  pub accepted-statement : book_verdict s used (Some day) ≡ Ok tt
      → (statement_answer s used day (length out) ≡ or_else (page_verdict s (length out)) (Ok (length (page_of s))))
      × (statement_bytes s used day out ≡ bytes_after (page_verdict s (length out)) out (in_front (page_of s) out))
  unfolding statement_verdict statement_answer statement_bytes
  accepted-statement e = (rw e, rw e)
