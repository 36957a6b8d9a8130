-- A flow above the largest amount, found in a leg and in a list.
use mathlib.Core.Path.{◌≡◌, refl, sym, ap, ◌∙◌}
use mathlib.Core.Bool.{Bool, true, false, ◌&&◌, ◌||◌, cond, or_assoc}
use mathlib.Core.List.{List, [], ◌∷◌, ◌++◌}
use Prim.Native.Nat.{ℕ, zero, suc, ◌+◌, ◌≤◌}
use native.Mathlib.Omega.{arith}
use lib.Dec.{eqb, leb, ltb}
use borrow.Author.Tests.{eq-eqb, ne_eqb, le-leb, leb-false, ltb-false, lt-ltb}
use Rattle.laws.proofs.Bools.{neither}
use Rattle.laws.specs.Walk.{table}
use Rattle.decimal.specs.Product.{unit}
use Rattle.discount.specs.declared.Flow.{Flow}
use Rattle.legs.specs.declared.Leg.{Leg}
use Rattle.legs.specs.declared.Legs.{Legs}
use Rattle.legs.specs.Runs.{flow_of, leg_flows, legs_flows}
use Rattle.flows.specs.Legs.{any_above}
use Rattle.flows.specs.Capped.{capped, capped_leg, capped_legs}
use Rattle.flows.proofs.Capped.{capped_small}

pub any_append : (a b : List Flow) → any_above (a ++ b) ≡ (any_above a || any_above b)
unfolding any_above
any_append [] b = refl
any_append (f ∷ a) b = ap (λ (t : Bool). ltb unit f.amount || t) (any_append a b) ∙ sym (or_assoc (ltb unit f.amount) (any_above a) (any_above b))

-- a leg's last flow is of one amount, and every flow before it of another
abbrev leg_above : Leg → ℕ → Bool
leg_above l n = leb 1 n && ltb unit l.last || leb 2 n && ltb unit l.each

again : (last each some : Bool) → (each || (true && last || some && each)) ≡ (true && last || true && each)
again true true some = refl
again true false some = refl
again false true some = refl
again false false true = refl
again false false false = refl

-- the last n flows of a leg, from flow i on
any-rest : (l : Leg) (i n : ℕ) → i + n ≡ l.count → any_above (table (flow_of l) i n) ≡ leg_above l n
unfolding any_above table
any-rest l i zero e = refl
any-rest l i (suc zero) e =
    let h : i + 1 ≡ l.count = omega arith in
    rw (eq-eqb (i + 1) l.count h) refl
any-rest l i (suc (suc n)) e =
    let h : (i + 1 ≡ l.count → ⊥) = λ g. omega arith in
    rw (ne_eqb (i + 1) l.count h)
    (ap (λ (t : Bool). ltb unit l.each || t) (any-rest l (suc i) (suc n) (omega arith))
    ∙ rw (le-leb 1 (suc n) (omega arith), le-leb 1 (suc (suc n)) (omega arith), le-leb 2 (suc (suc n)) (omega arith))
    (again (ltb unit l.last) (ltb unit l.each) (leb 2 (suc n))))

pub any-leg : (l : Leg) → any_above (leg_flows l) ≡ leg_above l l.count
unfolding leg_flows
any-leg l = any-rest l 0 l.count (omega arith)

-- a cap at one above the largest keeps what is above it
above-capped : (n : ℕ) → ltb unit (capped n) ≡ ltb unit n
unfolding capped
above-capped n = go (leb n unit) refl
  where
    go : (t : Bool) → leb n unit ≡ t → ltb unit (cond t n (unit + 1)) ≡ ltb unit n
    go true e = refl
    go false e = lt-ltb unit (unit + 1) (omega arith) ∙ sym (lt-ltb unit n (leb-false n unit e))

pub any-capped : (l : Leg) → any_above (leg_flows (capped_leg l)) ≡ any_above (leg_flows l)
any-capped l = any-leg (capped_leg l) ∙ rw (above-capped l.last, above-capped l.each) (sym (any-leg l))

pub any-legs : (l : Legs) → any_above (legs_flows l) ≡ (any_above (leg_flows l.first) || any_above (leg_flows l.second) || any_above (leg_flows l.payments))
unfolding legs_flows
any-legs l =
    any_append (leg_flows l.first ++ leg_flows l.second) (leg_flows l.payments)
    ∙ ap (λ (t : Bool). t || any_above (leg_flows l.payments)) (any_append (leg_flows l.first) (leg_flows l.second))

-- ---- where no flow is above, a capped leg has the same flows

rest-capped : (l : Leg) (i n : ℕ) → any_above (table (flow_of l) i n) ≡ false → table (flow_of (capped_leg l)) i n ≡ table (flow_of l) i n
unfolding any_above table
rest-capped l i zero h = refl
rest-capped l i (suc n) h =
    let p = neither (ltb unit (flow_of l i).amount) (any_above (table (flow_of l) (suc i) n)) h in
    rw (rest-capped l (suc i) n p.1) (ap (λ (f : Flow). f ∷ table (flow_of l) (suc i) n) (flow (eqb (i + 1) l.count) refl (ltb-false unit _ p.0)))
  where
    flow : (t : Bool) → eqb (i + 1) l.count ≡ t → cond t l.last l.each ≤ unit → flow_of (capped_leg l) i ≡ flow_of l i
    flow true e small = rw (e, capped_small l.last small)
    flow false e small = rw (e, capped_small l.each small)

leg-capped : (l : Leg) → any_above (leg_flows l) ≡ false → leg_flows (capped_leg l) ≡ leg_flows l
unfolding leg_flows
leg-capped l h = rest-capped l 0 l.count h

pub legs-capped : (l : Legs) → any_above (legs_flows l) ≡ false → legs_flows (capped_legs l) ≡ legs_flows l
unfolding legs_flows
legs-capped l h =
    let first = any_above (leg_flows l.first) in
    let second = any_above (leg_flows l.second) in
    let p = neither (first || second) (any_above (leg_flows l.payments)) (sym (any-legs l) ∙ h) in
    let q = neither first second p.0 in
    rw (leg-capped l.first q.0, leg-capped l.second q.1, leg-capped l.payments p.1)
