-- The edges of a preview of a book that is accepted on the day: a wrong record, no block for it, and more lent bytes than any book takes.
use mathlib.Core.Path.{◌≡◌}
use mathlib.Core.Logic.{inl, inr}
use mathlib.Core.List.{List}
use Prim.Native.Nat.{ℕ, ◌+◌, ◌%◌, ◌≤◌, ◌<◌}
use native.Mathlib.Omega.{arith}
use lib.ListN.{length, take}
use lib.Seq.{take-take, length-take-le}
use Rattle.std.specs.Prelude.{Err, Ok, Some}
use Rattle.ground.specs.declared.Ground.TheVariants.{BookSpace}
use Rattle.ground.specs.declared.Refusal.{Refusal}
use Rattle.ground.specs.Verdicts.{refused}
use Rattle.layout.specs.Bytes.{AreBytes}
use Rattle.layout.proofs.Bytes.{bytes-part}
use Rattle.book.specs.Parts.{curves_of, trade_count}
use Rattle.book.specs.Verdict.{bytes_verdict}
use Rattle.book.proofs.Accepted.{sound}
use Rattle.acceptance.specs.Verdict.{book_verdict}
use Rattle.edit.specs.Refusals.{block_of, append_verdict}
use Rattle.edit.proofs.Given.{admitted, space-broken, record-refused, space-refused}
use Rattle.preview.specs.Preview.{preview_verdict, preview_bytes}
use Rattle.preview.proofs.Theorems.{refused-by-append, copy-previewed}

module _ (s : List ℕ) (used day : ℕ) (r out : List ℕ) (ok : book_verdict s used (Some day) ≡ Ok tt) where
  -- a record that breaks a rule is refused by it, in the block that it would take, however short the report space is
  pub wrong-record : (refusal : Refusal) → bytes_verdict (curves_of s) r (block_of s (trade_count s)) ≡ Err refusal
      → (preview_verdict s used day r (length out) ≡ Err refusal) × (preview_bytes s used day r out ≡ out)
  wrong-record refusal e = refused-by-append s used day r out refusal (record-refused s used day r ok refusal e)

  -- a record that breaks none, where the last block is full or there is none
  module _ (judged : bytes_verdict (curves_of s) r (block_of s (trade_count s)) ≡ Ok tt) (full : trade_count s % 9 ≡ 0) where
    -- 15: the book has 128 blocks
    pub no-block-left : used ≡ 65536 → (preview_verdict s used day r (length out) ≡ refused BookSpace 0) × (preview_bytes s used day r out ≡ out)
    no-block-left e =
        refused-by-append s used day r out _
        (space-refused s used day r ok judged (space-broken (trade_count s) used (length s) full (inl (omega arith))))

    -- 15: the lent bytes end before the new block does, though a copy would have room
    pub no-block-lent : length s < used + 512 → (preview_verdict s used day r (length out) ≡ refused BookSpace 0) × (preview_bytes s used day r out ≡ out)
    no-block-lent l =
        refused-by-append s used day r out _
        (space-refused s used day r ok judged (space-broken (trade_count s) used (length s) full (inr l)))

-- of the bytes lent, those past 65,536 make no difference
pub longer-lent : (s : List ℕ) (used day : ℕ) (r out : List ℕ) → AreBytes s → length r ≡ 56 → append_verdict s used day r ≡ Ok tt
    → (lent : ℕ) → 65536 ≤ lent → lent ≤ length s
    → (preview_verdict (take lent s) used day r (length out) ≡ preview_verdict s used day r (length out)) × (preview_bytes (take lent s) used day r out ≡ preview_bytes s used day r out)
longer-lent s used day r out bytes long taken lent most within =
    let b = sound s used (admitted s used r day taken).accepted in
    copy-previewed s used day r out bytes long taken (take lent s) (bytes-part s 0 lent bytes) (take-take used lent s (omega (arith, b.limit)))
    (omega (arith, length-take-le lent s within))
