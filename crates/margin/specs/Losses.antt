-- The loss of a scenario and the worst one (document 01, "Margin"), at a value v of each flow: its present value, or its exact value.
use Rattle.std.specs.Prelude.{map, ℕ, ◌-◌, ℤ, ◌-ℤ◌}
use Rattle.laws.specs.Walk.{table}
use Rattle.laws.specs.Worst.{worst}
use Rattle.curve.specs.Scenarios.{scenario_count, scenario_at}
use Rattle.curve.specs.Stress.{stressed}
use Rattle.discount.specs.declared.Flow.{Flow}
use Rattle.ladder.specs.Exposure.{Exposure}
use Rattle.ladder.specs.Values.{value_on, base_of}

module _ (v : (ℕ → ℕ) → Flow → ℕ) (e : Exposure) where
  -- the value in the scenario of a number, from 0: stressed at the nodes, and interpolated afterwards
  abbrev pub value_at : ℕ → ℤ
  value_at s = value_on v (map (stressed (scenario_at e.components s)) e.nodes) e.flows

  -- "loss of a scenario (base minus stressed)"
  unfoldable pub loss_at : ℕ → ℤ
  loss_at s = base_of v e -ℤ value_at s

  -- "worst loss (the first scenario with the largest)": its number
  unfoldable pub worst_at : ℕ
  worst_at = worst loss_at 0 (table (λ s. s) 1 (scenario_count e.components - 1))

  abbrev pub worst_loss : ℤ
  worst_loss = loss_at worst_at
