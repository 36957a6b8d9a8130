-- The value of a bond's payments: payment by payment, cut in two, how much it can be, and that of the payments up to a curve's last node.
use mathlib.Core.Path.{◌≡◌, ap, ◌∙◌}
use mathlib.Core.Bool.{Bool, true, false, cond}
use mathlib.Core.List.{List, [], ◌∷◌, ◌++◌}
use Prim.Native.Nat.{ℕ, zero, suc, ◌+◌, ◌-◌, ◌*◌, ◌≤◌, ◌<◌}
use native.Mathlib.Nat.{suc-mul, zero-add}
use native.Mathlib.Omega.{arith}
use lib.Dec.{eqb}
use Rattle.laws.specs.Walk.{table}
use Rattle.laws.proofs.All.{all-table}
use Rattle.laws.proofs.Tables.{table-add, table_step, table-end}
use Rattle.ground.specs.Limits.{last_day}
use Rattle.decimal.specs.Product.{unit}
use Rattle.decimal.specs.HalfUp.{discounted}
use Rattle.discount.specs.declared.Flow.{Flow}
use Rattle.discount.specs.Discount.{million, factor, present_value}
use Rattle.discount.specs.Flows.{sum, flow_value}
use Rattle.discount.proofs.Bound.{value-le}
use Rattle.discount.proofs.Sums.{sum-append, sum_same}
use Rattle.curve.specs.declared.Node.{Node}
use Rattle.curve.specs.declared.Curve.{Curve}
use Rattle.curve.specs.Lengthen.{end_day}
use Rattle.curve.specs.Limits.{ProperCurve}
use Rattle.curve.specs.Rates.{nodes_of, rate_at}
use Rattle.curve.proofs.Lengthened.{rate-up-to-end}
use Rattle.curve.proofs.Rates.{curve-rate-limit}
use Rattle.legs.specs.declared.Leg.{Leg}
use Rattle.legs.specs.Runs.{flow_of, leg_flows}
use Rattle.legs.proofs.Reach.{span}
use Rattle.bond.specs.Limits.{PaymentLimits, PaymentsUpTo}
use Rattle.bond.specs.Value.{bond_value}

-- ---- payment by payment

module _ (nodes : List Node) (l : Leg) where
  value-next : (k to : ℕ) → k < to
      → bond_value nodes (table (flow_of l) k (to - k)) ≡ flow_value (rate_at nodes) (flow_of l k) + bond_value nodes (table (flow_of l) (k + 1) (to - (k + 1)))
  unfolding bond_value sum
  value-next k to h = rw (table_step (flow_of l) k to h)

  pub value-two : (k to : ℕ) → k + 1 < to
      → bond_value nodes (table (flow_of l) k (to - k))
      ≡ flow_value (rate_at nodes) (flow_of l k) + flow_value (rate_at nodes) (flow_of l (k + 1)) + bond_value nodes (table (flow_of l) (k + 2) (to - (k + 2)))
  value-two k to h =
      let e : k + 1 + 1 ≡ k + 2 = omega arith in
      omega (arith, value-next k to (omega arith), value-next (k + 1) to h, ap (λ (i : ℕ). bond_value nodes (table (flow_of l) i (to - i))) e)

  pub value_none : (k to : ℕ) → to ≤ k → bond_value nodes (table (flow_of l) k (to - k)) ≡ 0
  unfolding bond_value sum
  value_none k to h = rw (table-end (flow_of l) k to h)

  pub value-one : (k to : ℕ) → k < to → to ≤ k + 1 → bond_value nodes (table (flow_of l) k (to - k)) ≡ flow_value (rate_at nodes) (flow_of l k)
  value-one k to h m = omega (arith, value-next k to h, value_none (k + 1) to m)

  -- the first k payments, and the others
  pub value-split : (k : ℕ) → k ≤ l.count
      → bond_value nodes (leg_flows l) ≡ bond_value nodes (table (flow_of l) 0 k) + bond_value nodes (table (flow_of l) k (l.count - k))
  unfolding bond_value leg_flows
  value-split k h =
      let e : l.count ≡ k + (l.count - k) = omega arith in
      let v = flow_value (rate_at nodes) in
      ap (λ (n : ℕ). sum v (table (flow_of l) 0 n)) e
      ∙ rw (table-add (flow_of l) 0 k (l.count - k), zero-add) (sum-append v (table (flow_of l) 0 k) (table (flow_of l) k (l.count - k)))

-- a payment's value, as the code takes it
pub factor-value : (nodes : List Node) (f : Flow) {rate x v : ℕ} → rate ≡ rate_at nodes f.day → x ≡ factor rate f.day → v ≡ discounted f.amount x
    → v ≡ flow_value (rate_at nodes) f
unfolding present_value
factor-value nodes f r e h = h ∙ rw (e, r)

-- ---- how much it can be

pub two-most : (nodes : List Node) (f g : Flow) → f.amount ≤ unit → g.amount ≤ unit → flow_value (rate_at nodes) f + flow_value (rate_at nodes) g ≤ 2 * unit
two-most nodes f g h k =
    omega (arith, value-le f.amount (rate_at nodes f.day) f.day, value-le g.amount (rate_at nodes g.day) g.day)

module _ (l : Leg) (h : PaymentLimits l) where
  pub payment-day-most : (k : ℕ) → k < l.count → (flow_of l k).day ≤ last_day
  payment-day-most k g = span l k (record { few = h.few; reach = h.reach }) g

  payment-most : (k : ℕ) → (flow_of l k).amount ≤ unit
  payment-most k = go (eqb (k + 1) l.count)
    where
      go : (t : Bool) → cond t l.last l.each ≤ unit
      go true = h.last
      go false = h.each

  pub value-most : (nodes : List Node) (k n : ℕ) → bond_value nodes (table (flow_of l) k n) ≤ n * unit
  unfolding bond_value table sum
  value-most nodes k zero = omega arith
  value-most nodes k (suc n) =
      let f = flow_of l k in
      omega (arith, value-le f.amount (rate_at nodes f.day) f.day, payment-most k, value-most nodes (suc k) n, suc-mul n unit)

-- ---- on a curve

-- its rates can be discounted at
pub rate-most : (c : Curve) (t : ℕ) → ProperCurve c → rate_at (nodes_of c) t ≤ million
unfolding million
rate-most c t p = curve-rate-limit c p t

-- the payments up to its last node are worth what they were, whatever node stands behind it
pub value-up-to-end : (n : Node) (c : Curve) (l : Leg) {k : ℕ} → ProperCurve c → end_day c < n.day → PaymentsUpTo l (end_day c) k
    → bond_value (nodes_of c ++ n ∷ []) (table (flow_of l) 0 k) ≡ bond_value (nodes_of c) (table (flow_of l) 0 k)
unfolding bond_value
value-up-to-end n c l {k} p h r =
    let v = flow_value (rate_at (nodes_of c ++ n ∷ [])) in
    let w = flow_value (rate_at (nodes_of c)) in
    sum_same v w (table (flow_of l) 0 k)
    (all-table (λ f. v f ≡ w f) (flow_of l) 0 k
    (λ i a b. let f = flow_of l i in ap (λ (rate : ℕ). present_value f.amount rate f.day) (rate-up-to-end n c f.day p h (r.before i (omega arith)))))
