-- What is held while a ladder is valued: a total with a flow that may wait.
use mathlib.Core.Path.{◌≡◌, refl}
use Rattle.std.specs.Prelude.{Option, Some, None}
use mathlib.Core.List.{List}
use Prim.Native.Nat.{ℕ, suc, ◌≤◌}
use native.Mathlib.Nat.{le_trans}
use native.Mathlib.Omega.{arith}
use Rattle.decimal.specs.Product.{unit}
use Rattle.decimal.specs.HalfUp.{discounted}
use Rattle.decimal.proofs.HalfUp.{discounted-le}
use Rattle.discount.specs.declared.Flow.{Flow}
use Rattle.discount.specs.Discount.{factor, present_value}
use Rattle.discount.specs.Flows.{flow_value}
use Rattle.discount.proofs.Factors.{factor-le}
use Rattle.curve.specs.declared.Node.{Node}
use Rattle.curve.specs.Rates.{rate_at}
use Rattle.ladder.specs.declared.total.Total.{Total}
use Rattle.ladder.specs.declared.valuing.Valuing.{Valuing}
use Rattle.ladder.specs.Totals.{plus_flow, no_flows, FlowLimits, most_flows, TotalRoom}
use Rattle.ladder.specs.Held.{with_waiting, ValuingLimits, WithFlow}
use Rattle.ladder.proofs.KeptFactors.{value-of-factor}
use Rattle.ladder.proofs.Totals.{plus_flow-turned, total-none, total-less, total-next}

-- ---- the limits of what is held

pub limits-none : {n : ℕ} → n ≤ most_flows → ValuingLimits n (record { total = no_flows; waiting = None })
limits-none h = record { room = total-none (omega arith); flow = tt }

pub limits-less : {m n : ℕ} {v : Valuing} → m ≤ n → ValuingLimits n v → ValuingLimits m v
limits-less l h = record { room = total-less (omega arith) h.room; flow = h.flow }

-- room for the flow that waits
pub waiting-limits : {n : ℕ} {v : Valuing} {f : Flow} → v.waiting ≡ Some f → ValuingLimits n v → TotalRoom (suc n) v.total × FlowLimits f
waiting-limits {n} w h = (total-less (omega arith) (rw w at h.room), rw w at h.flow)

module _ (nodes : List Node) where
  -- ---- a flow's value: by its rate, by its factor, and how much it can be

  abbrev worth : Flow → ℕ
  worth f = flow_value (rate_at nodes) f

  pub at-rate : (f : Flow) {rate value : ℕ} → rate ≡ rate_at nodes f.day → value ≡ present_value f.amount rate f.day → value ≡ worth f
  at-rate f e q = rw e at q

  pub at-factor : (f : Flow) {x : ℕ} → x ≡ factor (rate_at nodes f.day) f.day → discounted f.amount x ≡ worth f
  at-factor f e = value-of-factor f.amount _ _ e

  pub value-most : (f : Flow) → FlowLimits f → worth f ≤ unit
  unfolding present_value
  value-most f s = le_trans (discounted-le f.amount _ (factor-le (rate_at nodes f.day) f.day)) s.amount

  -- ---- a flow more

  module _ (v : Valuing) (f : Flow) (s : FlowLimits f) where
    -- of a known value: it is added, and what waits still waits
    pub with-known : {value : ℕ} {t : Total} → value ≡ worth f → t ≡ plus_flow v.total f value
        → WithFlow nodes v f (record { total = t; waiting = v.waiting })
    unfolding with_waiting
    with-known e q =
        rw (q, e)
        (record {
          held = go v.waiting;
          limits = λ n h. record { room = total-next (value-most f s) s (total-less (omega arith) h.room); flow = h.flow };
        })
      where
        go : (w : Option Flow) → with_waiting nodes (plus_flow v.total f (worth f)) w ≡ plus_flow (with_waiting nodes v.total w) f (worth f)
        go (Some g) = plus_flow-turned v.total f g _ _
        go None = refl

    -- with the one that waits
    pub with-both : {g : Flow} {t : Total} → v.waiting ≡ Some g → t ≡ plus_flow (plus_flow v.total g (worth g)) f (worth f)
        → WithFlow nodes v f (record { total = t; waiting = None })
    unfolding with_waiting
    with-both {g} w q =
        record {
          held = rw (w, q) refl;
          limits = λ n h.
              let g-limits = waiting-limits {n = suc n} {v = v} {f = g} w h in
              let one = total-next (value-most g g-limits.1) g-limits.1 g-limits.0 in
              record { room = rw q (total-less {n = n} (omega arith) (total-next (value-most f s) s one)); flow = tt };
        }

    -- it waits
    pub with-waiting : v.waiting ≡ None → WithFlow nodes v f (record { total = v.total; waiting = Some f })
    unfolding with_waiting
    with-waiting w = record { held = rw w refl; limits = λ n h. record { room = total-less (omega arith) (rw w at h.room); flow = s } }
