-- The scenarios of a curve, in order (document 01, "Rates and scenarios").
use Rattle.std.specs.Prelude.{ℕ, ◌+◌, ◌*◌, cond, eqb, get_or, ℤ, pos, ◌-ℤ◌, ◌*ℤ◌}
use mathlib.Core.List.{List, map, flat_map}
use Rattle.std.specs.Int.Signed.{quot_z}
use Rattle.laws.specs.Walk.{table}
use Rattle.curve.specs.declared.Component.{Component}
use Rattle.curve.specs.declared.Components.{Components}
use Rattle.curve.specs.declared.Scenario.{Scenario}

-- with m steps j runs from −m to m
abbrev pub coefficient_count : Component → ℕ
coefficient_count x = 2 * x.steps + 1

-- coefficient k, from 0: j × g / m cut towards zero, with j = k − m; with no steps, 0
unfoldable pub coefficient : Component → ℕ → ℤ
coefficient x k =
    cond (eqb x.steps 0) (pos 0) (quot_z ((pos k -ℤ pos x.steps) *ℤ pos x.range) (pos x.steps))

unfoldable pub coefficients : Component → List ℤ
coefficients x = table (coefficient x) 0 (coefficient_count x)

abbrev pub scenario : ℤ → ℤ → ℤ → Scenario
scenario a b c = record { first = a; second = b; third = c }

-- the first component slowest, the third fastest
unfoldable pub scenarios : Components → List Scenario
scenarios x =
    flat_map (λ a. flat_map (λ b. map (scenario a b) (coefficients x.third)) (coefficients x.second)) (coefficients x.first)

abbrev pub scenario_count : Components → ℕ
scenario_count x = coefficient_count x.first * coefficient_count x.second * coefficient_count x.third

-- the scenario that changes no rate
abbrev pub unstressed : Scenario
unstressed = scenario (pos 0) (pos 0) (pos 0)

-- scenarios count from 0
abbrev pub scenario_at : Components → ℕ → Scenario
scenario_at x s = get_or (scenarios x) s unstressed
