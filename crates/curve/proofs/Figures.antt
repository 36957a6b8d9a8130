-- The checked figures of rates and coefficients (document 01, "Checked figures"), and stresses about zero, computed from the definitions.
use mathlib.Core.Path.{◌≡◌, refl}
use mathlib.Core.List.{List, [], ◌∷◌, map, flat_map}
use Prim.Native.Nat.{ℕ}
use lib.IntN.{ℤ, pos, neg_ℤ}
use Rattle.laws.specs.Walk.{table}
use Rattle.curve.specs.declared.Node.{Node}
use Rattle.curve.specs.declared.Component.{Component}
use Rattle.curve.specs.Rates.{interpolated, rate_from, rate_at}
use Rattle.curve.specs.Scenarios.{coefficient, coefficients, scenario, scenarios}
use Rattle.curve.specs.Stress.{shifted, stressed}

-- a node with no components
abbrev pub plain : ℕ → ℕ → Node
plain d r = record { day = d; rate = r; first = pos 0; second = pos 0; third = pos 0 }

-- nodes (10; 100,007), (20; 100,000): day 5 100,007, day 13 100,005, day 25 100,000
pub figures-rates : map (rate_at (plain 10 100007 ∷ plain 20 100000 ∷ [])) (5 ∷ 13 ∷ 25 ∷ []) ≡ 100007 ∷ 100005 ∷ 100000 ∷ []
unfolding interpolated rate_from rate_at
figures-rates = refl

-- range 100, 3 steps
pub figures-coefficients
    : coefficients (record { steps = 3; range = 100 })
    ≡ neg_ℤ (pos 100) ∷ neg_ℤ (pos 66) ∷ neg_ℤ (pos 33) ∷ pos 0 ∷ pos 33 ∷ pos 66 ∷ pos 100 ∷ []
unfolding table coefficient coefficients
figures-coefficients = refl

-- with no steps, only 0
no_steps : coefficients (record { steps = 0; range = 100 }) ≡ pos 0 ∷ []
unfolding table coefficient coefficients
no_steps = refl

-- the first component slowest, the third fastest
abbrev one-step : ℕ → Component
one-step g = record { steps = 1; range = g }

order
    : scenarios (record { first = one-step 1; second = record { steps = 0; range = 0 }; third = one-step 3 })
    ≡ scenario (neg_ℤ (pos 1)) (pos 0) (neg_ℤ (pos 3))
    ∷ scenario (neg_ℤ (pos 1)) (pos 0) (pos 0)
    ∷ scenario (neg_ℤ (pos 1)) (pos 0) (pos 3)
    ∷ scenario (pos 0) (pos 0) (neg_ℤ (pos 3))
    ∷ scenario (pos 0) (pos 0) (pos 0)
    ∷ scenario (pos 0) (pos 0) (pos 3)
    ∷ scenario (pos 1) (pos 0) (neg_ℤ (pos 3))
    ∷ scenario (pos 1) (pos 0) (pos 0)
    ∷ scenario (pos 1) (pos 0) (pos 3)
    ∷ []
unfolding table coefficient coefficients scenarios flat_map
order = refl

-- ---- about zero: a node at 5 millionths whose first component is 1

five : Node
five = record { day = 0; rate = 5; first = pos 1; second = pos 0; third = pos 0 }

moved : ℤ → ℕ
moved k = (stressed (scenario k (pos 0) (pos 0)) five).rate

-- 199 hundredths are 1, and −199 hundredths −1: cut towards zero; and no rate falls below 0
about-zero
    : map moved (neg_ℤ (pos 10000) ∷ neg_ℤ (pos 199) ∷ neg_ℤ (pos 99) ∷ pos 99 ∷ pos 199 ∷ []) ≡ 0 ∷ 4 ∷ 5 ∷ 5 ∷ 6 ∷ []
unfolding five moved shifted
about-zero = refl

-- ---- stressed at the nodes and not after interpolation: on day 5 the node at 0 stays at 0 and the other falls to 50, which gives 25;
-- the rate between the unstressed nodes, 50, stressed by the same amount, would be 0

ends : List Node
ends =
    record { day = 0; rate = 0; first = pos 50; second = pos 0; third = pos 0 }
    ∷ record { day = 10; rate = 100; first = pos 50; second = pos 0; third = pos 0 }
    ∷ []

at-the-nodes : rate_at (map (stressed (scenario (neg_ℤ (pos 100)) (pos 0) (pos 0))) ends) 5 ≡ 25
unfolding ends shifted interpolated rate_from rate_at
at-the-nodes = refl
