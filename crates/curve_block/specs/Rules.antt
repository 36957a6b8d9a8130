-- The rules of a curve block (document 01, grounds 5 and 6).
use Rattle.std.specs.Prelude.{ℕ, zero, suc, ◌+◌, Bool, not, ◌&&◌, ◌||◌, List, [], ◌∷◌, eqb, leb, ltb, ℤ, pos, negsuc}
use Rattle.std.specs.Int.Signed.{le_z}
use Rattle.laws.specs.Every.{every}
use Rattle.laws.specs.Tests.{all}
use Rattle.ground.specs.Limits.{last_day}
use Rattle.layout.specs.Bytes.{byte_at, zeros}
use Rattle.layout.specs.Field.{u16_at}
use Rattle.curve.specs.declared.Node.{Node}
use Rattle.curve.specs.declared.Component.{Component}
use Rattle.curve_block.specs.Parts.{id_of, currency_of, node_count, node_place, node_at, components_of}

-- ---- ground 5

-- 0 to 3 steps, a range of 0 to 10,000
unfoldable pub steps_sound : Component → Bool
steps_sound x = leb x.steps 3 && leb x.range 10000

-- the id its block number k, currency 1 to 3, 2 to 24 nodes, steps and ranges
abbrev pub number_tests : List ℕ → ℕ → List Bool
number_tests b k =
    eqb (id_of b) k
    ∷ leb 1 (currency_of b)
    ∷ leb (currency_of b) 3
    ∷ leb 2 (node_count b)
    ∷ leb (node_count b) 24
    ∷ steps_sound (components_of b).first
    ∷ steps_sound (components_of b).second
    ∷ steps_sound (components_of b).third
    ∷ []

unfoldable pub numbers_sound : List ℕ → ℕ → Bool
numbers_sound b k = all (number_tests b k)

-- the two 0 bytes of node i
abbrev pub gap_zero : List ℕ → ℕ → Bool
gap_zero b i = eqb (u16_at b (node_place i + 2)) 0

unfoldable pub gaps_zero : List ℕ → Bool
gaps_zero b = every (gap_zero b) 0 (node_count b)

-- the bytes that the layout does not name: 1, 10-11, 18-19, two in each node, and all behind the last node up to the check
abbrev pub unnamed_tests : List ℕ → List Bool
unnamed_tests b =
    eqb (byte_at b 1) 0
    ∷ eqb (u16_at b 10) 0
    ∷ eqb (u16_at b 18) 0
    ∷ gaps_zero b
    ∷ zeros b (node_place (node_count b)) 508
    ∷ []

unfoldable pub unnamed_zero : List ℕ → Bool
unnamed_zero b = all (unnamed_tests b)

-- the id, currency, node count, steps, range or unnamed byte is wrong
unfoldable pub breaks_curve : List ℕ → ℕ → Bool
breaks_curve b k = not (numbers_sound b k && unnamed_zero b)

-- ---- ground 6

-- a component is −1,000,000 to 1,000,000
unfoldable pub component_sound : ℤ → Bool
component_sound z = le_z (negsuc 999999) z && le_z z (pos 1000000)

-- node i, behind a node of day `before`: days rise strictly and end at or below 10,950; the rate 0 to 1,000,000
abbrev pub node_tests : ℕ → ℕ → Node → List Bool
node_tests i before n =
    (eqb i 0 || ltb before n.day)
    ∷ leb n.day last_day
    ∷ leb n.rate 1000000
    ∷ component_sound n.first
    ∷ component_sound n.second
    ∷ component_sound n.third
    ∷ []

unfoldable pub node_sound : ℕ → ℕ → Node → Bool
node_sound i before n = all (node_tests i before n)

-- the day of the node before node i; the first has none
unfoldable pub day_before : List ℕ → ℕ → ℕ
day_before b zero = 0
day_before b (suc i) = (node_at b i).day

abbrev pub sound_at : List ℕ → ℕ → Bool
sound_at b i = node_sound i (day_before b i) (node_at b i)

-- a node's day, order, rate or component is out of limits
unfoldable pub breaks_node : List ℕ → Bool
breaks_node b = not (every (sound_at b) 0 (node_count b))
