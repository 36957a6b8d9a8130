-- The search for the nodes about a day: node a stands before place i, its day is not past t, and what follows a decides.
use mathlib.Core.Path.{◌≡◌, ◌∙◌, ap}
use mathlib.Core.List.{List, ◌∷◌}
use Prim.Native.Nat.{ℕ, suc, ◌+◌, ◌-◌, ◌≤◌, ◌<◌}
use native.Mathlib.Omega.{arith}
use native.Mathlib.Numerals.{add-one}
use borrow.Author.Tests.{lt-ltb, le-ltb}
use lib.ListN.{get_or, take, drop}
use lib.Seq.{get_or-take}
use Rattle.std.proofs.lemmas.Grind.{get_or_after_one}
use lib.IntN.{nat_abs}
use Rattle.laws.proofs.Lists.{drop-next, drop-end}
use Rattle.curve.specs.declared.Node.{Node}
use Rattle.curve.specs.declared.Curve.{Curve}
use Rattle.curve.specs.Rates.{nodes_of, interpolated, BetweenNodes, rate_from, rate_at}
use Rattle.curve.specs.Limits.{NodeLimits, ProperCurve, zero_node}

pub record Passed (c : Curve) (t : ℕ) (a : Node) (i : ℕ) : Type 0 where
  pub some : 0 < i
  pub most : i ≤ c.count
  pub limits : NodeLimits a
  pub from : a.day ≤ t
  pub rest : rate_at (nodes_of c) t ≡ rate_from a (drop i (nodes_of c)) t

abbrev node : Curve → ℕ → Node
node c i = get_or c.nodes i zero_node

module _ (c : Curve) (t : ℕ) (p : ProperCurve c) where
  next : (i : ℕ) → i < c.count → drop i (nodes_of c) ≡ node c i ∷ drop (suc i) (nodes_of c)
  next i k = drop-next c.nodes c.count i zero_node (omega (arith, p.places, p.most)) k

  -- the nodes behind the first, one by one
  pub later-node : (k : ℕ) → k < c.count - 1 → get_or (take (c.count - 1) (drop 1 c.nodes)) k zero_node ≡ node c (k + 1)
  later-node k h = let e : 1 + k ≡ k + 1 = omega arith in rw (get_or-take (c.count - 1) (drop 1 c.nodes) k zero_node h, get_or_after_one, e)

  pub before-all : t < (node c 0).day → rate_at (nodes_of c) t ≡ (node c 0).rate
  unfolding rate_at
  before-all h = rw (next 0 (omega (arith, p.least)), lt-ltb t (node c 0).day h)

  pub passed_first : (node c 0).day ≤ t → Passed c t (node c 0) 1
  unfolding rate_at
  passed_first h =
      record {
        some = omega arith;
        most = omega (arith, p.least);
        limits = p.each 0 (omega (arith, p.least));
        from = h;
        rest = ap (λ (ns : List Node). rate_at ns t) (next 0 (omega (arith, p.least))) ∙ rw (le-ltb t (node c 0).day h);
      }

  module _ (a : Node) (i : ℕ) (h : Passed c t a i) where
    pub passed-between : i < c.count → t < (node c i).day → NodeLimits a × NodeLimits (node c i) × BetweenNodes a (node c i) t
    passed-between k m = (h.limits, p.each i k, record { from = h.from; before = m })

    pub passed-interpolated : i < c.count → t < (node c i).day → rate_at (nodes_of c) t ≡ nat_abs (interpolated a (node c i) t)
    unfolding rate_from
    passed-interpolated k m = h.rest ∙ rw (next i k, lt-ltb t (node c i).day m)

    pub passed-next : i < c.count → (node c i).day ≤ t → Passed c t (node c i) (i + 1)
    unfolding rate_from
    passed-next k m =
        record {
          some = omega arith;
          most = omega arith;
          limits = p.each i k;
          from = m;
          rest = h.rest ∙ rw (next i k, le-ltb t (node c i).day m, add-one);
        }

    pub passed-all : c.count ≤ i → rate_at (nodes_of c) t ≡ a.rate
    unfolding rate_from
    passed-all k = h.rest ∙ rw (drop-end c.nodes c.count i k)
