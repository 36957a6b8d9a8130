-- The list of scenarios by number: its length, its entries, and the middle one.
use mathlib.Core.Path.{◌≡◌, ◌∙◌, ap}
use mathlib.Core.List.{List, map, flat_map}
use Prim.Native.Nat.{ℕ, ◌+◌, ◌-◌, ◌*◌, ◌/◌, ◌%◌, ◌≤◌, ◌<◌}
use native.Mathlib.Nat.{mul_assoc, mul-le-mul, zero-add, mod-lt, mod-eq_of_lt, mul-add-mod_self_right, div-lt_iff_lt-mul, div-eq_of_lt-le, mul-pos}
use native.Mathlib.Omega.{arith}
use lib.IntN.{ℤ, pos}
use lib.ListN.{length, get_or, length-map}
use Rattle.laws.proofs.Walk.{length-table, get_d-table}
use Rattle.laws.proofs.Lists.{get_d-map-in, length-flat_map, get_d-flat_map}
use Rattle.curve.specs.declared.Component.{Component}
use Rattle.curve.specs.declared.Components.{Components}
use Rattle.curve.specs.declared.Scenario.{Scenario}
use Rattle.curve.specs.Limits.{ProperComponents, ScenarioLimits}
use Rattle.curve.specs.Scenarios.{coefficient_count, coefficient, coefficients, scenario, scenarios, scenario_count, unstressed, scenario_at}
use Rattle.curve.proofs.Coefficients.{coefficient-fits, coefficient-middle}

pub length-coefficients : (x : Component) → length (coefficients x) ≡ coefficient_count x
unfolding coefficients
length-coefficients x = length-table (coefficient x) 0 (coefficient_count x)

pub coefficient-entry : (x : Component) (k : ℕ) (d : ℤ) → k < coefficient_count x → get_or (coefficients x) k d ≡ coefficient x k
unfolding coefficients
coefficient-entry x k d h = get_d-table (coefficient x) 0 (coefficient_count x) k d h ∙ ap (coefficient x) (zero-add k)

-- how many scenarios share a coefficient of the second component, and of the first
abbrev pub fast : Components → ℕ
fast x = coefficient_count x.third

abbrev pub slow : Components → ℕ
slow x = coefficient_count x.second * fast x

-- the scenario of three places, one in each component's coefficients
abbrev pub placed : Components → ℕ → ℕ → ℕ → Scenario
placed x i j k = scenario (coefficient x.first i) (coefficient x.second j) (coefficient x.third k)

module _ (x : Components) where
  abbrev inner : ℤ → ℤ → List Scenario
  inner a b = map (scenario a b) (coefficients x.third)

  abbrev outer : ℤ → List Scenario
  outer a = flat_map (inner a) (coefficients x.second)

  length-inner : (a b : ℤ) → length (inner a b) ≡ fast x
  length-inner a b = length-map (coefficients x.third) (scenario a b) ∙ length-coefficients x.third

  length-outer : (a : ℤ) → length (outer a) ≡ slow x
  length-outer a =
      length-flat_map (inner a) (fast x) (omega arith) (length-inner a) (coefficients x.second)
      ∙ rw (length-coefficients x.second)

  pub slow-some : 0 < slow x
  slow-some = mul-pos (omega arith) (omega arith)

  pub scenarios-some : 0 < scenario_count x
  scenarios-some = mul-pos (mul-pos (omega arith) (omega arith)) (omega arith)

  pub length-scenarios : length (scenarios x) ≡ scenario_count x
  unfolding scenarios
  length-scenarios =
      length-flat_map outer (slow x) slow-some length-outer (coefficients x.first)
      ∙ rw (length-coefficients x.first, mul_assoc)

  module _ (p : ProperComponents x) where
    pub slow-most : slow x ≤ 49
    slow-most = mul-le-mul {n₂ = 7} {m₂ = 7} (omega (arith, p.second)) (omega (arith, p.third))

    pub two-most : coefficient_count x.first * coefficient_count x.second ≤ 49
    two-most = mul-le-mul {n₂ = 7} {m₂ = 7} (omega (arith, p.first)) (omega (arith, p.second))

    pub scenarios-most : scenario_count x ≤ 343
    scenarios-most = mul-le-mul {n₂ = 49} {m₂ = 7} two-most (omega (arith, p.third))

  -- the number s, by component
  module _ (s : ℕ) (h : s < scenario_count x) where
    pub first-in : s / slow x < coefficient_count x.first
    first-in = (div-lt_iff_lt-mul slow-some).1 (rw mul_assoc at h)

    pub rest_in : s % slow x < slow x
    rest_in = mod-lt s slow-some

    pub second-in : s % slow x / fast x < coefficient_count x.second
    second-in = (div-lt_iff_lt-mul {k = fast x} (omega arith)).1 rest_in

    pub third-in : s % slow x % fast x < coefficient_count x.third
    third-in = mod-lt (s % slow x) (omega arith)

    pub scenario-entry : scenario_at x s ≡ placed x (s / slow x) (s % slow x / fast x) (s % slow x % fast x)
    unfolding scenarios
    scenario-entry =
        get_d-flat_map outer (slow x) slow-some length-outer (coefficients x.first) s (pos 0) unstressed
        (rw (length-coefficients x.first) (rw mul_assoc at h))
        ∙ rw (coefficient-entry x.first (s / slow x) (pos 0) first-in) (inside _)
      where
        inside : (a : ℤ)
            → get_or (outer a) (s % slow x) unstressed
            ≡ scenario a (coefficient x.second (s % slow x / fast x)) (coefficient x.third (s % slow x % fast x))
        inside a =
            get_d-flat_map (inner a) (fast x) (omega arith) (length-inner a) (coefficients x.second) (s % slow x) (pos 0) unstressed
            (rw (length-coefficients x.second) rest_in)
            ∙ rw (coefficient-entry x.second (s % slow x / fast x) (pos 0) second-in) (last _)
          where
            last : (b : ℤ) → get_or (inner a b) (s % slow x % fast x) unstressed ≡ scenario a b (coefficient x.third (s % slow x % fast x))
            last b =
                get_d-map-in (scenario a b) (coefficients x.third) (s % slow x % fast x) (pos 0) unstressed
                (omega (arith, length-coefficients x.third, third-in))
                ∙ ap (scenario a b) (coefficient-entry x.third (s % slow x % fast x) (pos 0) third-in)

    pub scenario-limits : ProperComponents x → ScenarioLimits (scenario_at x s)
    scenario-limits p =
        rw scenario-entry
        (record {
          first = coefficient-fits x.first _ (p.first, first-in);
          second = coefficient-fits x.second _ (p.second, second-in);
          third = coefficient-fits x.third _ (p.third, third-in);
        })

-- ---- the middle scenario

-- digits of s in mixed radix
digit-high : (q r n : ℕ) → r < n → (q * n + r) / n ≡ q
digit-high q r n h = div-eq_of_lt-le n (omega arith) (omega arith)

digit_low : (q r n : ℕ) → r < n → (q * n + r) % n ≡ r
digit_low q r n h = mul-add-mod_self_right q n r ∙ mod-eq_of_lt h

module _ (x : Components) where
  middle : ℕ
  middle = x.second.steps * fast x + x.third.steps

  middle-in : middle < slow x
  unfolding middle
  middle-in = omega arith

  middle-is : (scenario_count x - 1) / 2 ≡ x.first.steps * slow x + middle
  unfolding middle
  middle-is = div-eq_of_lt-le 2 (omega arith) (omega arith)

  middle-place : (scenario_count x - 1) / 2 < scenario_count x
  middle-place = omega (arith, scenarios-some x)

  -- scenario (count − 1) / 2 changes no rate
  pub scenario-middle : scenario_at x ((scenario_count x - 1) / 2) ≡ unstressed
  unfolding middle
  scenario-middle =
      scenario-entry x ((scenario_count x - 1) / 2) middle-place
      ∙ rw
      (middle-is, digit-high x.first.steps middle (slow x) middle-in, digit_low x.first.steps middle (slow x) middle-in, digit-high x.second.steps x.third.steps (fast x) (omega arith), digit_low x.second.steps x.third.steps (fast x) (omega arith), coefficient-middle x.first, coefficient-middle x.second, coefficient-middle x.third)
