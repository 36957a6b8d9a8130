-- A bootstrap that nothing refuses: what its book, its quote and its curve keep.
use mathlib.Core.Path.{◌≡◌}
use mathlib.Core.Bool.{false}
use mathlib.Core.List.{List, ◌++◌}
use Prim.Native.Nat.{ℕ, ◌+◌, ◌*◌, ◌≤◌, ◌<◌}
use native.Mathlib.Omega.{arith}
use lib.ListN.{length, take, drop, length-set}
use Rattle.std.specs.Prelude.{Ok, Some}
use Rattle.ground.proofs.Verdicts.{or_else-accepted, unbroken}
use Rattle.layout.specs.Bytes.{part, on_block, AreBytes}
use Rattle.layout.proofs.Bytes.{length-put, length_part, on_block-lent, bytes-part}
use Rattle.layout.proofs.Sealed.{length-sealed}
use Rattle.curve.specs.declared.Node.{Node}
use Rattle.curve.specs.Limits.{NodeLimits}
use Rattle.curve.specs.Rates.{nodes_of}
use Rattle.curve.proofs.Lengthened.{limits-at-rate}
use Rattle.curve_block.specs.Parts.{node_count, curve_of}
use Rattle.curve_edit.specs.Lengthen.{with_node}
use Rattle.curve_edit.proofs.Lengthened.{Addable}
use Rattle.record.proofs.Limits.{InLimits}
use Rattle.book.specs.Parts.{block_at, curve_count, curves_of}
use Rattle.book.specs.Verdict.{blocks_verdict}
use Rattle.acceptance.specs.Verdict.{book_verdict}
use Rattle.acceptance.proofs.Laws.{book-accepted}
use Rattle.book.proofs.Accepted.{Sound, sound, curve-block-accepted, curve-sound, length-block_at}
use Rattle.bond.specs.Limits.{Extends}
use Rattle.bond.specs.Value.{breaks_rate_range}
use Rattle.bond.proofs.SmallestRate.{found-limit, found-enough, found-above}
use Rattle.bootstrap.specs.declared.Quote.{Quote}
use Rattle.bootstrap.specs.Bought.{bond_payments, bond_flows}
use Rattle.bootstrap.specs.Refusals.{quote_verdict, open_node, breaks_curve_end, extension_rules, extension_verdict, curve_at, in_book_verdict, bootstrap_verdict}
use Rattle.bootstrap.specs.Bootstrap.{new_node, SmallestRate}
use Rattle.bootstrap.proofs.Extending.{extends}
use Rattle.bootstrap.proofs.Kept.{id-in-book, quote-kept}

-- what a call leaves that was lent the curve's block and added a node
pub node-left : (s : List ℕ) (curve : ℕ) {n m : Node} {t : List ℕ} → curve * 512 + 512 ≤ length s → n ≡ m → t ≡ with_node n (part s (curve * 512) 512)
    → take (curve * 512) s ++ (t ++ drop 512 (drop (curve * 512) s)) ≡ on_block (with_node m) s (curve * 512)
unfolding with_node
node-left s curve {n} {m} h en et =
    let long : length (with_node m (part s (curve * 512) 512)) ≡ 512 = simp (length-sealed, length-set, length-put) (length_part s (curve * 512) 512 h) in
    rw (et, en) (on_block-lent (with_node m) s (curve * 512) h long)

module _ (s : List ℕ) (used day : ℕ) (q : Quote) (h : bootstrap_verdict s used day q ≡ Ok tt) where
  pub accepted-on-day : book_verdict s used (Some day) ≡ Ok tt
  unfolding bootstrap_verdict
  accepted-on-day = (or_else-accepted (book_verdict s used (Some day)) _ tt h).0

  pub blocks-accepted : blocks_verdict s used ≡ Ok tt
  blocks-accepted = (book-accepted s used (Some day) accepted-on-day).blocks

  behind-book : (quote_verdict (curves_of s) q ≡ Ok tt) × (extension_verdict (curve_at s q.curve) q ≡ Ok tt)
  unfolding bootstrap_verdict in_book_verdict
  behind-book = or_else-accepted (quote_verdict (curves_of s) q) _ tt (or_else-accepted (book_verdict s used (Some day)) _ tt h).1

  quote-accepted : quote_verdict (curves_of s) q ≡ Ok tt
  quote-accepted = behind-book.0

  extension-accepted : extension_verdict (curve_at s q.curve) q ≡ Ok tt
  extension-accepted = behind-book.1

  end_kept : breaks_curve_end (curve_at s q.curve) (open_node q).day ≡ false
  unfolding extension_verdict
  end_kept = unbroken 0 (extension_rules (curve_at s q.curve) q) extension-accepted 0

  range-kept : breaks_rate_range (nodes_of (curve_at s q.curve)) (open_node q) (bond_flows q) q.cash ≡ false
  unfolding extension_verdict
  range-kept = unbroken 0 (extension_rules (curve_at s q.curve) q) extension-accepted 1

  -- ---- the curve

  pub id : InLimits 1 q.curve (curve_count s)
  id = id-in-book s q quote-accepted

  pub book-sound : Sound s used
  book-sound = sound s used blocks-accepted

  extended : Extends (curve_at s q.curve) (open_node q) (bond_payments q)
  extended =
      extends (curve_at s q.curve) q (curve-sound s used book-sound q.curve id.low id.high).curve (quote-kept (curves_of s) q quote-accepted) end_kept

  pub within : q.curve * 512 + 512 ≤ used
  within = omega (arith, book-sound.blocks, id.high)

  pub curve_lent : q.curve * 512 + 512 ≤ length s
  curve_lent = omega (arith, within, book-sound.lent)

  pub node-room : node_count (block_at s q.curve) < 24
  unfolding curve_of
  node-room = extended.place

  -- ---- the rate and the node

  pub smallest-found : SmallestRate (curve_at s q.curve) q
  unfolding new_node
  smallest-found =
      let nodes = nodes_of (curve_at s q.curve) in
      record {
        limit = found-limit nodes (open_node q) (bond_flows q) q.cash;
        enough = found-enough nodes (open_node q) (bond_flows q) q.cash range-kept;
        above = found-above nodes (open_node q) (bond_flows q) q.cash;
      }

  node-limits : NodeLimits (new_node (curve_at s q.curve) q)
  unfolding new_node
  node-limits = limits-at-rate extended.node smallest-found.limit

  pub addable : AreBytes s → Addable (block_at s q.curve) q.curve (new_node (curve_at s q.curve) q)
  unfolding new_node
  addable bytes =
      record {
        long = length-block_at s used book-sound q.curve (omega (arith, id.high));
        bytes = bytes-part s (q.curve * 512) 512 bytes;
        accepted = curve-block-accepted s used book-sound q.curve id.low id.high;
        room = node-room;
        limits = node-limits;
        later = extended.behind;
      }
