-- Bytes stay bytes, whatever the call.
use mathlib.Core.Path.{◌≡◌, refl}
use mathlib.Core.List.{List, [], ◌∷◌, ◌++◌}
use Prim.Native.Nat.{ℕ, ◌+◌, ◌-◌, ◌*◌, ◌<◌}
use native.Mathlib.Decide.{dec_lt}
use native.Mathlib.Omega.{arith}
use lib.ListN.{length, get_or, drop, replicate, get_or-append}
use lib.Seq.{get_or_at}
use Rattle.std.specs.Prelude.{Err, Ok, Some}
use Rattle.ground.specs.Verdicts.{Verdict, bytes_after}
use Rattle.layout.specs.Bytes.{put, on_block, AreBytes}
use Rattle.layout.proofs.Bytes.{bytes-zeros, bytes-put, bytes_drop, bytes-append, bytes-part}
use Rattle.curve_edit.specs.Lengthen.{with_node}
use Rattle.curve_edit.proofs.Lengthened.{bytes-with-node}
use Rattle.book.specs.Parts.{block_at, curve_count, trade_count, curve_blocks, records, parts_of}
use Rattle.book.specs.Edited.{without, appended_parts, struck_parts}
use Rattle.book.proofs.Places.{length-curve_blocks, curve-block, length-records, record_of}
use Rattle.book.proofs.EncodedBytes.{AllBytes, bytes-encoded}
use Rattle.edit.specs.Refusals.{position_verdict, append_verdict}
use Rattle.edit.specs.Edits.{appended_book, appended, struck_book, struck}
use Rattle.edit.proofs.Added.{length-one-more}
use Rattle.edit.proofs.Fewer.{length_without, without-before, without-behind}
use Rattle.edit.proofs.Given.{has-trade}
use Rattle.edit.proofs.ReadBack.{bytes-record_at}
use Rattle.bootstrap.specs.declared.Quote.{Quote}
use Rattle.bootstrap.specs.Refusals.{curve_at, bootstrap_verdict}
use Rattle.bootstrap.specs.Bootstrap.{new_node, bootstrapped}
use Rattle.bootstrap.proofs.Added.{addable}

-- ---- the parts of bytes

module _ (s : List ℕ) (bytes : AreBytes s) where
  bytes-curves : AllBytes (curve_blocks s)
  bytes-curves k l =
      let i : k < curve_count s = rw (length-curve_blocks s) at l in
      rw (curve-block s k i) (bytes-part s ((1 + k) * 512) 512 bytes)

  bytes-records : AllBytes (records s)
  bytes-records i l =
      let j : i < trade_count s = rw (length-records s) at l in
      rw (record_of s i j) (bytes-record_at s i bytes)

  -- with a record more
  bytes-more : (r : List ℕ) → AreBytes r → AllBytes (records s ++ r ∷ [])
  bytes-more r h i l = go (dec_lt i (length (records s)))
    where
      go : Dec (i < length (records s)) → AreBytes (get_or (records s ++ r ∷ []) i [])
      go (yes m) = rw (get_or-append (records s) (r ∷ []) [] i m) (bytes-records i m)
      go (no m) = rw (get_or_at (records s) r [] [] i (omega (arith, length-one-more (records s) r))) h

  -- and with one fewer
  bytes-fewer : (p : ℕ) → p < length (records s) → AllBytes (without (records s) p)
  bytes-fewer p in_list i l = go (dec_lt i p)
    where
      go : Dec (i < p) → AreBytes (get_or (without (records s) p) i [])
      go (yes m) = rw (without-before (records s) p in_list i m) (bytes-records i (omega arith))
      go (no m) = rw (without-behind (records s) p in_list i (omega arith)) (bytes-records (i + 1) (omega (arith, length_without (records s) p in_list)))

  bytes-with-record : (r : List ℕ) → AreBytes r → AreBytes (appended_book s r)
  unfolding appended_book
  bytes-with-record r h =
      let p = appended_parts (parts_of s) r in
      bytes-encoded p.header p.curves p.trades bytes-curves (bytes-more r h)

  bytes-without : (p : ℕ) → p < length (records s) → AreBytes (struck_book s p)
  unfolding struck_book
  bytes-without p in_list =
      let q = struck_parts (parts_of s) p in
      bytes-encoded q.header q.curves q.trades bytes-curves (bytes-fewer p in_list)

-- ---- the calls

module _ (s : List ℕ) (used day : ℕ) (bytes : AreBytes s) where
  pub bytes-appended : (r : List ℕ) → AreBytes r → AreBytes (appended s used day r)
  unfolding appended
  bytes-appended r h = go (append_verdict s used day r)
    where
      go : (v : Verdict) → AreBytes (bytes_after v s (appended_book s r ++ drop (length (appended_book s r)) s))
      go (Ok tt) = bytes-append (appended_book s r) (drop (length (appended_book s r)) s) (bytes-with-record s bytes r h) (bytes_drop (length (appended_book s r)) s bytes)
      go (Err refusal) = bytes

  pub bytes-struck : (p : ℕ) → AreBytes (struck s used day p)
  unfolding struck
  bytes-struck p = go (position_verdict s used (Some day) p) refl
    where
      go : (v : Verdict) → position_verdict s used (Some day) p ≡ v
          → AreBytes (bytes_after v s (struck_book s p ++ replicate (used - length (struck_book s p)) 0 ++ drop used s))
      go (Ok tt) e =
          let zeros : List ℕ = replicate (used - length (struck_book s p)) 0 in
          let in_list : p < length (records s) = rw (length-records s) (has-trade s used (Some day) p e).in-book in
          bytes-append (struck_book s p ++ zeros) (drop used s)
          (bytes-append (struck_book s p) zeros (bytes-without s bytes p in_list) (bytes-zeros (used - length (struck_book s p)))) (bytes_drop used s bytes)
      go (Err refusal) e = bytes

  pub bytes-bootstrapped : (q : Quote) → AreBytes (bootstrapped s used day q)
  unfolding bootstrapped on_block
  bytes-bootstrapped q = go (bootstrap_verdict s used day q) refl
    where
      go : (v : Verdict) → bootstrap_verdict s used day q ≡ v
          → AreBytes (bytes_after v s (put s (q.curve * 512) (with_node (new_node (curve_at s q.curve) q) (block_at s q.curve))))
      go (Ok tt) e =
          bytes-put s (q.curve * 512) _ bytes (bytes-with-node (block_at s q.curve) q.curve (new_node (curve_at s q.curve) q) (addable s used day q e bytes))
      go (Err refusal) e = bytes
