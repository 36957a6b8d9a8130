-- The parts of an accepted book with a record more, or one fewer, can be encoded.
use mathlib.Core.Path.{◌≡◌}
use mathlib.Core.Bool.{false}
use mathlib.Core.List.{List, [], ◌∷◌, ◌++◌}
use Prim.Native.Nat.{ℕ, ◌+◌, ◌%◌, ◌≤◌, ◌<◌}
use native.Mathlib.Decide.{ℕ_discrete}
use native.Mathlib.Omega.{arith}
use lib.ListN.{length}
use Rattle.std.specs.Prelude.{Ok}
use Rattle.laws.proofs.Tables.{Each}
use Rattle.layout.specs.Bytes.{AreBytes}
use Rattle.book.specs.Parts.{header_of, curve_blocks, trade_count, records}
use Rattle.book.specs.Verdict.{blocks_verdict}
use Rattle.book.specs.Encode.{blocks_for}
use Rattle.book.proofs.Encoded.{Encodable}
use Rattle.edit.specs.Refusals.{breaks_book_space}
use Rattle.book.specs.Edited.{without}
use Rattle.edit.proofs.Books.{sized, encodable}
use Rattle.edit.proofs.Added.{length-one-more, each_more}
use Rattle.edit.proofs.Fewer.{length_without, each-without}
use Rattle.edit.proofs.Given.{room}

module _ (s : List ℕ) (used : ℕ) (bytes : AreBytes s) (ok : blocks_verdict s used ≡ Ok tt) where
  abbrev cs : List (List ℕ)
  cs = curve_blocks s

  abbrev rs : List (List ℕ)
  rs = records s

  -- other records of 56 bytes that fit
  other-records : (qs : List (List ℕ)) → Each 56 qs → 1 + length cs + blocks_for (length qs) ≤ 128 → Encodable (header_of s) cs qs
  other-records qs each few =
      let fine = encodable s used bytes ok in
      record { fits = fine.fits; least = fine.least; most = fine.most; within = few; each-curve = fine.each-curve; each-record = each }

  pub encodable-more : (r : List ℕ) → length r ≡ 56 → breaks_book_space (trade_count s) used (length s) ≡ false → Encodable (header_of s) cs (rs ++ r ∷ [])
  encodable-more r long roomy =
      other-records (rs ++ r ∷ []) (each_more rs r (encodable s used bytes ok).each-record long) (go (ℕ_discrete (trade_count s % 9) 0))
    where
      go : Dec (trade_count s % 9 ≡ 0) → 1 + length cs + blocks_for (length (rs ++ r ∷ [])) ≤ 128
      go (yes e) =
          let z = sized s used bytes ok in
          omega (arith, length-one-more rs r, (room (trade_count s) used (length s) roomy e).few, z.curve-count, z.trade-count, z.size, z.limit)
      go (no e) =
          let z = sized s used bytes ok in
          omega (arith, length-one-more rs r, (encodable s used bytes ok).within, z.trade-count)

  pub narrower : (p : ℕ) → p < trade_count s → Encodable (header_of s) cs (without rs p)
  narrower p in-book =
      let fine = encodable s used bytes ok in
      let in_list : p < length rs = rw (sized s used bytes ok).trade-count in-book in
      other-records (without rs p) (each-without rs p in_list fine.each-record) (rw (length_without rs p in_list) (omega (arith, fine.within)))
