-- `curve_edit::add_node` meets its contract: the node, the count, the check.
use Rattle.curve_edit.specs.Lengthen.{with_node}
use Rattle.curve_edit.proofs.add_node.Goals as goal

pub returns : goal.returns
unfolding with_node
returns c =
    rw (c.seal.ensures, c.put_node.ensures, c.node_place.ensures, c.node_count-count.ensures)
