-- What a curve block holds (document 01, "Curve (kind 2, blocks 1 to C)").
use Rattle.std.specs.Prelude.{ℕ, ◌+◌, ◌*◌, List}
use Rattle.laws.specs.Walk.{table}
use Rattle.layout.specs.Bytes.{byte_at}
use Rattle.layout.specs.Field.{u16_at, u32_at, i32_at}
use Rattle.curve.specs.declared.Node.{Node}
use Rattle.curve.specs.declared.Curve.{Curve}
use Rattle.curve.specs.declared.Component.{Component}
use Rattle.curve.specs.declared.Components.{Components}

abbrev pub id_of : List ℕ → ℕ
id_of b = byte_at b 4

-- 1 TRY, 2 USD, 3 EUR
abbrev pub currency_of : List ℕ → ℕ
currency_of b = byte_at b 5

abbrev pub node_count : List ℕ → ℕ
node_count b = byte_at b 6

-- from 20, nodes of 20 bytes
abbrev pub node_place : ℕ → ℕ
node_place i = 20 + i * 20

-- day in 2 bytes, two 0 bytes, rate in 4, three components i32
unfoldable pub node_at : List ℕ → ℕ → Node
node_at b i =
    record {
      day = u16_at b (node_place i);
      rate = u32_at b (node_place i + 4);
      first = i32_at b (node_place i + 8);
      second = i32_at b (node_place i + 12);
      third = i32_at b (node_place i + 16);
    }

-- the nodes; behind the last, what the block holds there: zeros, in one that is accepted
unfoldable pub curve_of : List ℕ → Curve
curve_of b = record { nodes = table (node_at b) 0 24; count = node_count b }

abbrev pub component_at : List ℕ → ℕ → ℕ → Component
component_at b steps range = record { steps = byte_at b steps; range = u16_at b range }

-- 7, 8, 9 steps of the three components, 12-13, 14-15, 16-17 their ranges
unfoldable pub components_of : List ℕ → Components
components_of b = record { first = component_at b 7 12; second = component_at b 8 14; third = component_at b 9 16 }
