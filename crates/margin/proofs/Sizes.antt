-- How large the figures of a curve can be: what keeps every sum in 64 bits.
use mathlib.Core.List.{map}
use Prim.Native.Nat.{ℕ, ◌*◌, ◌^◌, ◌≤◌, ◌<◌}
use native.Mathlib.Omega.{arith}
use lib.IntN.{ℤ, nat_abs}
use Rattle.laws.proofs.Signed.{abs-sub}
use Rattle.laws.proofs.Largest.{Leads, worst-leads}
use Rattle.decimal.specs.Product.{unit}
use Rattle.discount.specs.Flows.{flow_value}
use Rattle.curve.specs.Scenarios.{scenario_count, scenario_at}
use Rattle.curve.specs.Stress.{stressed}
use Rattle.curve.proofs.Scenarios.{scenarios-some}
use Rattle.ladder.specs.Totals.{most_flows}
use Rattle.ladder.specs.Exposure.{Exposure, FlowsFit}
use Rattle.ladder.specs.Values.{base_of}
use Rattle.ladder.proofs.Sizes.{value-size}
use Rattle.margin.specs.Losses.{value_at, loss_at, worst_at}
use Rattle.margin.specs.Margins.{figures_at, curve_margin, MarginLimits}

module _ (e : Exposure) (h : FlowsFit e) where
  pub loss-size : (s : ℕ) → nat_abs (loss_at flow_value e s) ≤ 2 * (most_flows * unit)
  unfolding loss_at
  loss-size s =
      omega
      (arith, abs-sub (base_of flow_value e) (value_at flow_value e s), value-size e h e.nodes, value-size e h (map (stressed (scenario_at e.components s)) e.nodes))

  pub figures-limits : (s : ℕ) → MarginLimits (figures_at e s)
  unfolding figures_at
  figures-limits s = record { base = value-size e h e.nodes; worstloss = loss-size s }

  pub margin-limits : MarginLimits (curve_margin e)
  unfolding curve_margin
  margin-limits = figures-limits (worst_at flow_value e)

-- ---- the scenario shown is one of the list's; no scenario of the list has a larger loss, and none before it has as large a one

pub first-largest : (e : Exposure) → Leads (loss_at flow_value e) (curve_margin e).scenario (scenario_count e.components)
unfolding curve_margin figures_at worst_at
first-largest e = worst-leads (loss_at flow_value e) (scenario_count e.components) (scenarios-some e.components)

-- ---- what fits

pub loss-fits : (z : ℤ) → nat_abs z ≤ 2 * (most_flows * unit) → nat_abs z < 2 ^ 63
unfolding unit
loss-fits z h = omega arith
