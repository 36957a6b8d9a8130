-- What holds after a bootstrap: the book is accepted, with the node and no other change; and a refusal writes nothing. That the rate is the
-- smallest is `smallest-found` of Added.antt.
use mathlib.Core.Path.{◌≡◌, ◌∙◌}
use mathlib.Core.List.{List}
use Prim.Native.Nat.{ℕ, ◌*◌}
use Rattle.std.specs.Prelude.{Err, Ok, Some}
use Rattle.ground.specs.declared.Refusal.{Refusal}
use Rattle.layout.specs.Bytes.{put, on_block, AreBytes}
use Rattle.curve_edit.specs.Lengthen.{with_node}
use Rattle.curve_edit.proofs.Lengthened.{length-with-node, verdict-with-node, currency-with-node, components-with-node, nodes-with-node}
use Rattle.book.specs.Parts.{block_at}
use Rattle.book.proofs.Replaced.{Replaced, replaced}
use Rattle.acceptance.specs.Verdict.{parts_verdict}
use Rattle.acceptance.proofs.Laws.{by_parts, parts-accepted}
use Rattle.bootstrap.specs.declared.Quote.{Quote}
use Rattle.bootstrap.specs.Refusals.{curve_at, bootstrap_verdict}
use Rattle.bootstrap.specs.Bootstrap.{new_node, bootstrapped, extended_parts, Extended}
use Rattle.bootstrap.proofs.Added.{accepted-on-day, blocks-accepted, id, addable}

-- a refusal leaves every lent byte
pub refused-bootstrap : (s : List ℕ) (used day : ℕ) (q : Quote) (refusal : Refusal) → bootstrap_verdict s used day q ≡ Err refusal → bootstrapped s used day q ≡ s
unfolding bootstrapped
refused-bootstrap s used day q refusal e = rw e

module _ (s : List ℕ) (used day : ℕ) (q : Quote) (bytes : AreBytes s) (h : bootstrap_verdict s used day q ≡ Ok tt) where
  -- the curve's block with the node
  abbrev block : List ℕ
  block = with_node (new_node (curve_at s q.curve) q) (block_at s q.curve)

  is-put : bootstrapped s used day q ≡ put s (q.curve * 512) block
  unfolding bootstrapped on_block
  is-put = rw h

  node-for-block : Replaced s (put s (q.curve * 512) block) used q.curve block
  node-for-block =
      let a = addable s used day q h bytes in
      let b = block_at s q.curve in
      let n = new_node (curve_at s q.curve) q in
      replaced s used q.curve block
      (record {
        book = blocks-accepted s used day q h;
        first = (id s used day q h).low;
        last = (id s used day q h).high;
        long = length-with-node b q.curve n a;
        accepted = verdict-with-node b q.curve n a;
        currency = currency-with-node n b;
      })

  -- what is asked of the book as a whole holds with the node
  longer-accepted : parts_verdict (extended_parts s q) (Some day) ≡ Ok tt
  longer-accepted = parts-accepted s used (Some day) (accepted-on-day s used day q h)

  -- the book after it: accepted, and as it was but for the node
  pub book-extended : Extended s (bootstrapped s used day q) used day q
  book-extended =
      let r = node-for-block in
      let b = block_at s q.curve in
      let n = new_node (curve_at s q.curve) q in
      rw is-put
      (record {
        accepted = by_parts (put s (q.curve * 512) block) used (Some day) (extended_parts s q) r.accepted r.parts ∙ longer-accepted;
        parts = r.parts;
        others = r.others;
        currency = rw r.block (currency-with-node n b);
        components = rw r.block (components-with-node n b);
        nodes = rw r.block (nodes-with-node b q.curve n (addable s used day q h bytes));
      })
