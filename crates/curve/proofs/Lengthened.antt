-- A curve with one node more: it is proper, its rates up to the old last node are as they were, and none falls where the new node's rate rises.
use mathlib.Core.Path.{◌≡◌, refl}
use mathlib.Core.Bool.{Bool, true, false, cond}
use mathlib.Core.List.{List, [], ◌∷◌, ◌++◌}
use Prim.Native.Nat.{ℕ, suc, ◌+◌, ◌-◌, ◌≤◌, ◌<◌}
use native.Mathlib.Decide.{ℕ_discrete}
use native.Mathlib.Numerals.{add-one}
use native.Mathlib.Omega.{arith}
use borrow.Author.Tests.{ltb-false, lt-ltb}
use lib.Dec.{ltb}
use lib.IntN.{nat_abs}
use lib.ListN.{length, get_or, set, length-set}
use lib.Seq.{get_or-set_same, get_or-set_other, get_or-take, take-suc-set}
use Rattle.curve.specs.declared.Node.{Node}
use Rattle.curve.specs.declared.Curve.{Curve}
use Rattle.curve.specs.Lengthen.{end_day, lengthened_curve, at_rate}
use Rattle.curve.specs.Limits.{highest_rate, NodeLimits, ProperCurve, zero_node}
use Rattle.curve.specs.Rates.{nodes_of, interpolated, rate_from, rate_at}
use Rattle.curve.proofs.Interpolation.{interpolated-start}
use Rattle.curve.proofs.Rates.{NoHigher, rate-monotone, length-nodes}

-- ---- its nodes

pub limits-at-rate : {n : Node} {rate : ℕ} → NodeLimits n → rate ≤ highest_rate → NodeLimits (at_rate n rate)
limits-at-rate h l = record { day = h.day; rate = l; first = h.first; second = h.second; third = h.third }

module _ (n : Node) (c : Curve) (p : ProperCurve c) (place : c.count < 24) where
  room : c.count < length c.nodes
  room = omega (arith, p.places)

  pub nodes-lengthened : nodes_of (lengthened_curve n c) ≡ nodes_of c ++ n ∷ []
  unfolding lengthened_curve
  nodes-lengthened = rw add-one (take-suc-set c.nodes c.count n room)

  nodes : List Node
  nodes = set c.nodes c.count n

  new : get_or nodes c.count zero_node ≡ n
  unfolding nodes
  new = get_or-set_same c.nodes c.count n zero_node room

  old : (i : ℕ) → i < c.count → get_or nodes i zero_node ≡ get_or c.nodes i zero_node
  unfolding nodes
  old i l = get_or-set_other c.nodes c.count i n zero_node (λ e. omega arith)

  each : NodeLimits n → (i : ℕ) → i < c.count + 1 → Dec (i ≡ c.count) → NodeLimits (get_or nodes i zero_node)
  each h i l (yes e) = rw (e, new) h
  each h i l (no e) = let m : i < c.count = omega arith in rw (old i m) (p.each i m)

  rising : end_day c < n.day → (i : ℕ) → suc i < c.count + 1 → Dec (suc i ≡ c.count)
      → (get_or nodes i zero_node).day < (get_or nodes (suc i) zero_node).day
  rising h i l (yes e) =
      let last : i ≡ c.count - 1 = omega arith in
      rw (old i (omega arith), e, new, last) h
  rising h i l (no e) =
      let m : suc i < c.count = omega arith in
      rw (old i (omega arith), old (suc i) m) (p.rising i m)

  pub proper-lengthened : NodeLimits n → end_day c < n.day → ProperCurve (lengthened_curve n c)
  unfolding lengthened_curve nodes
  proper-lengthened h behind =
      record {
        places = rw length-set p.places;
        least = omega (arith, p.least);
        most = omega arith;
        each = λ i l. each h i l (ℕ_discrete i c.count);
        rising = λ i l. rising behind i l (ℕ_discrete (suc i) c.count);
      }

-- ---- its rates up to the old last node

module _ (n : Node) (t : ℕ) where
  from-up-to : (a : Node) (ns : List Node) → a.day ≤ t → t ≤ (get_or (a ∷ ns) (length ns) zero_node).day → (get_or (a ∷ ns) (length ns) zero_node).day < n.day
      → rate_from a (ns ++ n ∷ []) t ≡ rate_from a ns t
  unfolding rate_from
  from-up-to a [] l m h =
      let e : t ≡ a.day = omega arith in
      rw (e, lt-ltb a.day n.day h) (interpolated-start a n h)
  from-up-to a (b ∷ ns) l m h = go (ltb t b.day) refl (λ k. from-up-to b ns k m h)
    where
      go : (q : Bool) → ltb t b.day ≡ q → (b.day ≤ t → rate_from b (ns ++ n ∷ []) t ≡ rate_from b ns t)
          → cond q (nat_abs (interpolated a b t)) (rate_from b (ns ++ n ∷ []) t) ≡ cond q (nat_abs (interpolated a b t)) (rate_from b ns t)
      go true e ih = refl
      go false e ih = ih (ltb-false t b.day e)

  rate-up-to : (a : Node) (ns : List Node) → t ≤ (get_or (a ∷ ns) (length ns) zero_node).day → (get_or (a ∷ ns) (length ns) zero_node).day < n.day
      → rate_at (a ∷ ns ++ n ∷ []) t ≡ rate_at (a ∷ ns) t
  unfolding rate_at
  rate-up-to a ns m h = go (ltb t a.day) refl
    where
      go : (q : Bool) → ltb t a.day ≡ q → cond q a.rate (rate_from a (ns ++ n ∷ []) t) ≡ cond q a.rate (rate_from a ns t)
      go true e = refl
      go false e = from-up-to a ns (ltb-false t a.day e) m h

-- the payments up to it do not depend on the new node's rate
pub rate-up-to-end : (n : Node) (c : Curve) (t : ℕ) → ProperCurve c → end_day c < n.day → t ≤ end_day c → rate_at (nodes_of c ++ n ∷ []) t ≡ rate_at (nodes_of c) t
rate-up-to-end n c t p h m =
    let e = get_or-take c.count c.nodes (c.count - 1) zero_node (omega (arith, p.least)) in
    go (nodes_of c) (length-nodes c p) (rw e m) (rw e h)
  where
    go : (ns : List Node) → length ns ≡ c.count → t ≤ (get_or ns (c.count - 1) zero_node).day → (get_or ns (c.count - 1) zero_node).day < n.day
        → rate_at (ns ++ n ∷ []) t ≡ rate_at ns t
    go [] l m h = absurd (omega (arith, p.least))
    go (a ∷ ns) l m h = let e : c.count - 1 ≡ length ns = omega arith in rate-up-to n t a ns (rw e at m) (rw e at h)

-- ---- its rates by the new node's rate

no-higher : (ns : List Node) (n : Node) (r s : ℕ) → r ≤ s → NoHigher (ns ++ at_rate n r ∷ []) (ns ++ at_rate n s ∷ [])
no-higher [] n r s h = (refl, h, tt)
no-higher (m ∷ ns) n r s h = (refl, omega arith, no-higher ns n r s h)

-- no rate falls where it rises
pub rate-rises : (ns : List Node) (n : Node) {r s : ℕ} (t : ℕ) → r ≤ s → rate_at (ns ++ at_rate n r ∷ []) t ≤ rate_at (ns ++ at_rate n s ∷ []) t
rate-rises ns n {r} {s} t h = rate-monotone (ns ++ at_rate n r ∷ []) (ns ++ at_rate n s ∷ []) t (no-higher ns n r s h)
