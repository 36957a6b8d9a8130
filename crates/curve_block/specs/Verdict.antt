-- The verdict on a curve block: grounds 2, 3, 5 and 6 in order.
use Rattle.std.specs.Prelude.{ℕ, List, [], ◌∷◌}
use Rattle.ground.specs.declared.Ground.TheVariants.{Check, Place, Curve, Node}
use Rattle.ground.specs.Verdicts.{Verdict, Rule, first_broken}
use Rattle.layout.specs.Check.{breaks_check, breaks_place}
use Rattle.curve_block.specs.Rules.{breaks_curve, breaks_node}

-- of block k, which calls for kind 2
abbrev pub curve_rules : List ℕ → ℕ → List Rule
curve_rules b k =
    (breaks_check b, Check)
    ∷ (breaks_place b 2 k, Place)
    ∷ (breaks_curve b k, Curve)
    ∷ (breaks_node b, Node)
    ∷ []

unfoldable pub curve_verdict : List ℕ → ℕ → Verdict
curve_verdict b k = first_broken k (curve_rules b k)
