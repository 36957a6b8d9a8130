-- The value of a bond on a curve that gets a node: what is known of it, with the value of the payments behind the curve's last node.
use mathlib.Core.Path.{◌≡◌}
use mathlib.Core.List.{List, [], ◌∷◌, ◌++◌}
use Prim.Native.Nat.{ℕ, ◌+◌, ◌-◌, ◌*◌, ◌≤◌}
use native.Mathlib.Omega.{arith}
use Rattle.laws.specs.Walk.{table}
use Rattle.decimal.specs.Product.{unit}
use Rattle.curve.specs.declared.Node.{Node}
use Rattle.curve.specs.declared.Curve.{Curve}
use Rattle.curve.specs.Lengthen.{lengthened_curve, at_rate}
use Rattle.curve.specs.Limits.{highest_rate, ProperCurve}
use Rattle.curve.specs.Rates.{nodes_of}
use Rattle.curve.proofs.Lengthened.{limits-at-rate, nodes-lengthened, proper-lengthened}
use Rattle.legs.specs.Runs.{flow_of, leg_flows}
use Rattle.bond.specs.declared.value.Extension.{Extension}
use Rattle.bond.specs.Limits.{Prepared}
use Rattle.bond.specs.Value.{bond_value, bond_value_at}
use Rattle.bond.proofs.Values.{value-split, value-most, value-up-to-end}

module _ {e : Extension} (p : Prepared e) where
  -- on whatever curve the others are valued
  pub value-limit : (nodes : List Node) {rest : ℕ} → rest ≡ bond_value nodes (table (flow_of e.payments) e.within (e.payments.count - e.within))
      → e.known + rest ≤ 120 * unit
  unfolding unit
  value-limit nodes h =
      let l = e.payments in
      let m = p.extends.payments in
      omega
      (arith, p.worth, p.reached.most, m.few, value-most l m (nodes_of e.curve) 0 e.within, value-most l m nodes e.within (l.count - e.within))

  module _ {rate : ℕ} {n : Node} {longer : Curve} (node : n ≡ at_rate e.node rate) (long : longer ≡ lengthened_curve n e.curve) where
    pub longer-proper : rate ≤ highest_rate → ProperCurve longer
    longer-proper h =
        let x = p.extends in
        rw (long, node) (proper-lengthened (at_rate e.node rate) e.curve x.curve x.place (limits-at-rate x.node h) x.behind)

    longer-nodes : nodes_of longer ≡ nodes_of e.curve ++ at_rate e.node rate ∷ []
    longer-nodes = rw (long, node) (nodes-lengthened (at_rate e.node rate) e.curve p.extends.curve p.extends.place)

    pub value-whole : {rest : ℕ} → rest ≡ bond_value (nodes_of longer) (table (flow_of e.payments) e.within (e.payments.count - e.within))
        → e.known + rest ≡ bond_value_at (nodes_of e.curve) e.node (leg_flows e.payments) rate
    unfolding bond_value_at
    value-whole h =
        let nodes = nodes_of e.curve ++ at_rate e.node rate ∷ [] in
        let within = value-up-to-end (at_rate e.node rate) e.curve e.payments p.extends.curve p.extends.behind p.reached in
        rw (value-split nodes e.payments e.within p.reached.most, within, ← p.worth, h, longer-nodes)
