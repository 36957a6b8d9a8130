-- How large the values of a curve's flows can be: what keeps every sum in 64 bits.
use mathlib.Core.Path.{◌≡◌}
use mathlib.Core.List.{List, [], ◌∷◌}
use Prim.Native.Nat.{ℕ, ◌*◌, ◌^◌, ◌≤◌, ◌<◌}
use native.Mathlib.Nat.{le_trans, mul-le-mul_right}
use native.Mathlib.Omega.{arith}
use lib.IntN.{ℤ, nat_abs}
use lib.ListN.{length}
use Rattle.laws.proofs.Signed.{read, read_is, abs-add}
use Rattle.decimal.specs.Product.{unit}
use Rattle.discount.specs.declared.Flow.{Flow}
use Rattle.discount.specs.Flows.{signed, total, sum, flow_value, flow_tolerance}
use Rattle.discount.proofs.Bound.{value-le}
use Rattle.curve.specs.declared.Node.{Node}
use Rattle.curve.specs.Rates.{nodes_of, rate_at}
use Rattle.netting.proofs.Sizes.{signed-size}
use Rattle.ladder.specs.declared.Position.{Position}
use Rattle.ladder.specs.Totals.{AllFlowLimits, most_flows}
use Rattle.ladder.specs.Exposure.{Exposure, FlowsFit, exposure_of, PositionLimits}
use Rattle.ladder.specs.Values.{value_on, base_of, tolerance_of}
use Rattle.ladder.proofs.LadderFlows.{ladder-limits}
use Rattle.ladder.proofs.Folds.{sum-most}
use Rattle.ladder.proofs.Totals.{tolerance-size}

-- ---- sums of flows

values-size : (rate : ℕ → ℕ) (fs : List Flow) → AllFlowLimits fs → nat_abs (total (flow_value rate) fs) ≤ length fs * unit
unfolding total
values-size rate [] h = omega arith
values-size rate (f ∷ fs) h =
    let v : ℕ = flow_value rate f in
    omega
    (arith, abs-add (signed f.received v) (total (flow_value rate) fs), signed-size f.received v, value-le f.amount (rate f.day) f.day, h.0.amount, values-size rate fs h.1)

tolerances-size : (fs : List Flow) → AllFlowLimits fs → sum flow_tolerance fs ≤ length fs * 1000
tolerances-size fs h = sum-most flow_tolerance 1000 (λ f s. tolerance-size f.amount f.day s.amount s.day) fs h

-- ---- an exposure

module _ (e : Exposure) (h : FlowsFit e) where
  pub value-size : (nodes : List Node) → nat_abs (value_on flow_value nodes e.flows) ≤ most_flows * unit
  value-size nodes = le_trans (values-size (rate_at nodes) e.flows h.each) (mul-le-mul_right unit h.few)

  pub tolerance-most : tolerance_of e ≤ most_flows * 1000
  tolerance-most = le_trans (tolerances-size e.flows h.each) (mul-le-mul_right 1000 h.few)

pub value-fits : (z : ℤ) → nat_abs z ≤ most_flows * unit → nat_abs z < 2 ^ 63
unfolding unit
value-fits z h = omega arith

-- ---- a position in its limits

module _ (p : Position) (ladder : List ℕ) (h : PositionLimits p ladder) where
  pub position-fits : FlowsFit (exposure_of p ladder)
  position-fits = record { each = ladder-limits p.id ladder p.schedules h.schedules; few = h.schedules.few }

  -- its base value, read back from its bits
  pub base_read : (z : ℤ) → z ≡ base_of flow_value (exposure_of p ladder) → read z ≡ base_of flow_value (exposure_of p ladder)
  base_read z e = rw e (read_is (base_of flow_value (exposure_of p ladder)) (value-fits (base_of flow_value (exposure_of p ladder)) (value-size (exposure_of p ladder) position-fits (nodes_of p.curve))))
