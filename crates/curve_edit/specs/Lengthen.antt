-- A curve block with one node more, behind its last (document 02, wish 1).
use Rattle.std.specs.Prelude.{ℕ, ◌+◌, List, ◌++◌, set}
use Rattle.layout.specs.Bytes.{put}
use Rattle.layout.specs.Field.{bytes_of, twos}
use Rattle.layout.specs.Check.{sealed}
use Rattle.curve.specs.declared.Node.{Node}
use Rattle.curve_block.specs.Parts.{node_count, node_place}

-- "day in 2 bytes, two 0 bytes, rate in 4, three components i32"
unfoldable pub node_bytes : Node → List ℕ
node_bytes n =
    bytes_of 2 n.day
    ++ bytes_of 2 0
    ++ bytes_of 4 n.rate
    ++ bytes_of 4 (twos n.first)
    ++ bytes_of 4 (twos n.second)
    ++ bytes_of 4 (twos n.third)

-- the node behind the others, the count and the check
unfoldable pub with_node : Node → List ℕ → List ℕ
with_node n b = sealed (set (put b (node_place (node_count b)) (node_bytes n)) 6 (node_count b + 1))
