-- A quote on a curve where 17 does not apply: the curve can be lengthened.
use mathlib.Core.Path.{◌≡◌}
use mathlib.Core.Bool.{false, not}
use native.Mathlib.Omega.{arith}
use borrow.Author.Tests.{eqb-false, ltb-true, not-false}
use lib.Dec.{eqb, ltb}
use Rattle.laws.proofs.Bools.{neither}
use Rattle.curve.specs.declared.Node.{Node}
use Rattle.curve.specs.declared.Curve.{Curve}
use Rattle.curve.specs.Limits.{ProperCurve}
use Rattle.curve.specs.Lengthen.{end_day}
use Rattle.legs.specs.declared.Leg.{Leg}
use Rattle.bond.specs.declared.value.Extension.{Extension}
use Rattle.bond.specs.Limits.{Extends}
use Rattle.bootstrap.specs.declared.Quote.{Quote}
use Rattle.bootstrap.specs.Bought.{bond_payments}
use Rattle.bootstrap.specs.Refusals.{open_node, breaks_curve_end}
use Rattle.bootstrap.specs.Limits.{QuoteLimits}

pub extends : (c : Curve) (q : Quote) → ProperCurve c → QuoteLimits q → breaks_curve_end c (open_node q).day ≡ false → Extends c (open_node q) (bond_payments q)
unfolding breaks_curve_end
extends c q p l h =
    let day = (open_node q).day in
    let e = neither (eqb c.count 24) (not (ltb (end_day c) day)) h in
    let room = eqb-false c.count 24 e.0 in
    record {
      curve = p;
      place = omega (arith, p.most);
      node = l.node;
      behind = ltb-true (end_day c) day (not-false _ e.1);
      payments = l.payments;
    }

-- what is said of an extension is said of its parts
pub of_parts : {A : Type 0} (f : Curve → Node → Leg → A) (e : Extension) {c : Curve} {n : Node} {l : Leg} → e.curve ≡ c → e.node ≡ n → e.payments ≡ l
    → f e.curve e.node e.payments ≡ f c n l
of_parts f e p q r = rw (p, q, r)
