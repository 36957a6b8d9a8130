-- A curve's lines, one after the other, have its rates: a level one before the first node, one from each node to the next, and a level one from the
-- last node on.
use mathlib.Core.Path.{◌≡◌, sym, ◌∙◌}
use Prim.Native.Nat.{ℕ, zero, suc, ◌-◌, ◌≤◌, ◌<◌}
use native.Mathlib.Numerals.{add-one}
use native.Mathlib.Omega.{arith}
use lib.ListN.{get_or}
use Rattle.curve.specs.declared.Node.{Node}
use Rattle.curve.specs.declared.Curve.{Curve}
use Rattle.curve.specs.Rates.{nodes_of, rate_at}
use Rattle.curve.specs.Limits.{ProperCurve, zero_node}
use Rattle.curve.proofs.Search.{Passed, before-all, passed_first, passed-interpolated, passed-next, passed-all}
use Rattle.estimate.specs.Lines.{level, line_of, Ahead}
use Rattle.estimate.proofs.LineRates.{line-rate, line-drawn, level-rate, level-drawn}
use Rattle.estimate.proofs.Valuing.{Follows}

abbrev pub node : Curve → ℕ → Node
node c i = get_or c.nodes i zero_node

module _ (c : Curve) (p : ProperCurve c) where
  abbrev pub rates : ℕ → ℕ
  rates t = rate_at (nodes_of c) t

  -- from its day on a node decides, with what follows it, every rate
  pub passed : (i t : ℕ) → i < c.count → (node c i).day ≤ t → Passed c t (node c i) (suc i)
  passed zero t k h = passed_first c t p h
  passed (suc i) t k h =
      let before = passed i t (omega arith) (omega (arith, p.rising i k)) in
      rw add-one at (passed-next c t p (node c i) (suc i) before k h)

  pub follows-first : Follows rates (level (node c 0).rate) 0 (node c 0).day
  follows-first =
      let n = p.each 0 (omega (arith, p.least)) in
      record {
        drawn = λ t m u. level-drawn (node c 0).rate t n.rate (omega (arith, n.day));
        rate-is = λ t m u. level-rate (node c 0).rate t ∙ sym (before-all c t p u);
      }

  -- the line to node i, which is not the first
  module _ (i : ℕ) (some : 0 < i) where
    here : suc (i - 1) ≡ i
    here = omega arith

    module _ (k : i < c.count) where
      pub ahead : Ahead (node c (i - 1)) (node c i)
      ahead =
          let r = p.rising (i - 1) (omega arith) in
          record { from = p.each (i - 1) (omega arith); to = p.each i k; rising = rw here at r }

      pub follows-between : Follows rates (line_of (node c (i - 1)) (node c i)) (node c (i - 1)).day (node c i).day
      follows-between =
          record {
            drawn = λ t m u. line-drawn (node c (i - 1)) (node c i) t ahead (record { from = m; before = u });
            rate-is =
                λ t m u.
                line-rate (node c (i - 1)) (node c i) t ahead (record { from = m; before = u })
                ∙ sym (passed-interpolated c t p (node c (i - 1)) i (rw here at (passed (i - 1) t (omega arith) m)) k u);
          }

    pub follows-last : i ≡ c.count → Follows rates (level (node c (i - 1)).rate) (node c (i - 1)).day 10951
    follows-last e =
        let n = p.each (i - 1) (omega arith) in
        record {
          drawn = λ t m u. level-drawn (node c (i - 1)).rate t n.rate (omega arith);
          rate-is =
              λ t m u.
              level-rate (node c (i - 1)).rate t
              ∙ sym (passed-all c t p (node c (i - 1)) i (rw here at (passed (i - 1) t (omega arith) m)) (omega arith));
        }
