-- The rate of a curve lies between those of its nodes, and does not fall where a node's rises.
use mathlib.Core.Path.{◌≡◌, refl}
use mathlib.Core.Bool.{Bool, true, false, cond}
use mathlib.Core.List.{List, [], ◌∷◌}
use Prim.Native.Nat.{ℕ, ◌≤◌, ◌<◌}
use native.Mathlib.Omega.{arith}
use borrow.Author.Tests.{ltb-true, ltb-false}
use lib.Dec.{ltb}
use lib.IntN.{nat_abs}
use lib.ListN.{length}
use lib.Seq.{get_or-take, length-take-le}
use Rattle.laws.specs.All.{All}
use Rattle.laws.proofs.All.{all_of}
use Rattle.curve.specs.declared.Node.{Node}
use Rattle.curve.specs.declared.Curve.{Curve}
use Rattle.curve.specs.Rates.{nodes_of, interpolated, BetweenNodes, rate_from, rate_at}
use Rattle.curve.specs.Limits.{highest_rate, NodeLimits, ProperCurve, zero_node}
use Rattle.curve.proofs.Interpolation.{interpolated-high, interpolated-monotone}

-- ---- what holds of every node's rate, and of what is interpolated between two such, holds on every day

module _ (P : ℕ → Type 0) (closed : (a b : Node) (t : ℕ) → BetweenNodes a b t → P a.rate → P b.rate → P (nat_abs (interpolated a b t))) where
  from-such : (a : Node) (ns : List Node) (t : ℕ) → P a.rate → a.day ≤ t → All (λ n. P n.rate) ns → P (rate_from a ns t)
  unfolding rate_from
  from-such a [] t p l h = p
  from-such a (b ∷ ns) t p l h = go (ltb t b.day) refl (from-such b ns t h.0)
    where
      go : (q : Bool) → ltb t b.day ≡ q → (b.day ≤ t → All (λ n. P n.rate) ns → P (rate_from b ns t))
          → P (cond q (nat_abs (interpolated a b t)) (rate_from b ns t))
      go true e ih = closed a b t (record { from = l; before = ltb-true t b.day e }) p h.0
      go false e ih = ih (ltb-false t b.day e) h.1

  rate-such : (a : Node) (ns : List Node) (t : ℕ) → All (λ n. P n.rate) (a ∷ ns) → P (rate_at (a ∷ ns) t)
  unfolding rate_at
  rate-such a ns t h = go (ltb t a.day) refl
    where
      go : (q : Bool) → ltb t a.day ≡ q → P (cond q a.rate (rate_from a ns t))
      go true e = h.0
      go false e = from-such a ns t h.0 (ltb-false t a.day e) h.1

pub rate-high : (m : ℕ) (ns : List Node) (t : ℕ) → All (λ n. n.rate ≤ m) ns → rate_at ns t ≤ m
unfolding rate_at
rate-high m [] t h = omega arith
rate-high m (a ∷ ns) t h = rate-such (λ r. r ≤ m) (λ a b t i p q. interpolated-high a b t i m p q) a ns t h

-- ---- nodes in their limits give rates in their limits

rates-of : (ns : List Node) → All NodeLimits ns → All (λ n. n.rate ≤ highest_rate) ns
rates-of [] h = tt
rates-of (n ∷ ns) h = (h.0.rate, rates-of ns h.1)

pub rate-limit : (ns : List Node) (t : ℕ) → All NodeLimits ns → rate_at ns t ≤ highest_rate
rate-limit ns t h = rate-high highest_rate ns t (rates-of ns h)

module _ (c : Curve) (p : ProperCurve c) where
  pub length-nodes : length (nodes_of c) ≡ c.count
  length-nodes = length-take-le c.count c.nodes (omega (arith, p.places, p.most))

  pub each-limits : All NodeLimits (nodes_of c)
  each-limits =
      all_of NodeLimits (nodes_of c) zero_node
      (λ i m. let n : i < c.count = omega (arith, length-nodes) in rw (get_or-take c.count c.nodes i zero_node n) (p.each i n))

  -- every rate of a proper curve is 0 to 1,000,000
  pub curve-rate-limit : (t : ℕ) → rate_at (nodes_of c) t ≤ highest_rate
  curve-rate-limit t = rate-limit (nodes_of c) t each-limits

-- ---- rates that nowhere fall

-- the same days, and no rate of the first list above that of the second
abbrev pub NoHigher : List Node → List Node → Type 0
NoHigher [] [] = Unit {0}
NoHigher [] (n ∷ ns) = ⊥
NoHigher (m ∷ ms) [] = ⊥
NoHigher (m ∷ ms) (n ∷ ns) = (m.day ≡ n.day) × (m.rate ≤ n.rate) × NoHigher ms ns

from-monotone : (a b : Node) (ms ns : List Node) (t : ℕ) → a.day ≤ t → NoHigher (a ∷ ms) (b ∷ ns) → rate_from a ms t ≤ rate_from b ns t
unfolding rate_from
from-monotone a b [] [] t l h = h.1
from-monotone a b [] (n ∷ ns) t l h = absurd h.2
from-monotone a b (m ∷ ms) [] t l h = absurd h.2
from-monotone a b (m ∷ ms) (n ∷ ns) t l h = go (ltb t m.day) (ltb t n.day) refl refl (λ k. from-monotone m n ms ns t k h.2)
  where
    go : (q u : Bool) → ltb t m.day ≡ q → ltb t n.day ≡ u → (m.day ≤ t → rate_from m ms t ≤ rate_from n ns t)
        → cond q (nat_abs (interpolated a m t)) (rate_from m ms t) ≤ cond u (nat_abs (interpolated b n t)) (rate_from n ns t)
    go true true e f ih =
        interpolated-monotone a m b n t (record { from = l; before = ltb-true t m.day e }) h.0 h.2.0 h.1 h.2.1
    go true false e f ih = absurd (omega (arith, ltb-true, ltb-false, h.2.0))
    go false true e f ih = absurd (omega (arith, ltb-true, ltb-false, h.2.0))
    go false false e f ih = ih (ltb-false t m.day e)

pub rate-monotone : (ms ns : List Node) (t : ℕ) → NoHigher ms ns → rate_at ms t ≤ rate_at ns t
unfolding rate_at
rate-monotone [] [] t h = omega arith
rate-monotone [] (n ∷ ns) t h = absurd h
rate-monotone (m ∷ ms) [] t h = absurd h
rate-monotone (m ∷ ms) (n ∷ ns) t h = go (ltb t m.day) (ltb t n.day) refl refl
  where
    go : (q u : Bool) → ltb t m.day ≡ q → ltb t n.day ≡ u
        → cond q m.rate (rate_from m ms t) ≤ cond u n.rate (rate_from n ns t)
    go true true e f = h.1
    go true false e f = absurd (omega (arith, ltb-true, ltb-false, h.0))
    go false true e f = absurd (omega (arith, ltb-true, ltb-false, h.0))
    go false false e f = from-monotone m n ms ns t (ltb-false t m.day e) h
