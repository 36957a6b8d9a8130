-- `curve_block::curve_of` meets its contract.
use mathlib.Core.Path.{◌≡◌, refl, sym, ap, ◌∙◌}
use native.Mathlib.Omega.{arith}
use borrow.Author.Count.{below_more}
use lib.ListN.{length-set}
use lib.Seq.{get_or-set_same, get_or-set_other, ext_get_or}
use Rattle.laws.specs.Walk.{table}
use Rattle.laws.proofs.Walk.{length-table, get_d-table}
use Rattle.curve.specs.Limits.{zero_node}
use Rattle.curve_block.specs.Parts.{node_at, curve_of}
use Rattle.curve_block.proofs.curve_of.Goals as goal

pub loop-i-preserved : goal.loop-i-preserved
loop-i-preserved c =
    let l = c.loop-i in
    record {
      long = simp length-set l.invariant.long;
      read =
          below_more _ l.i
          (λ k h. get_or-set_other l.nodes l.i k c.node_at.result zero_node (λ e. omega arith) ∙ l.invariant.read k h)
          (get_or-set_same l.nodes l.i c.node_at.result zero_node (omega arith) ∙ c.node_at.ensures);
    }

pub returns : goal.returns
unfolding curve_of
returns c =
    let b = c.args.b.now in
    let inv = c.loop-i.invariant in
    rw (
      c.node_count.ensures,
      ext_get_or zero_node c.loop-i.nodes (table (node_at b) 0 24) (inv.long ∙ sym (length-table (node_at b) 0 24))
          (λ k l. inv.read k (omega arith) ∙ sym (get_d-table (node_at b) 0 24 k zero_node (omega arith) ∙ ap (node_at b) (omega arith))),
    )
