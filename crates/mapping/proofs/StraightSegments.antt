-- The rates of a curve's segments of days are straight, in every scenario.
use mathlib.Core.Path.{◌≡◌, refl, ap, ◌∙◌}
use Prim.Native.Nat.{ℕ, suc, ◌+◌, ◌-◌, ◌*◌, ◌/◌, ◌≤◌, ◌<◌}
use native.Mathlib.Nat.{le_refl}
use native.Mathlib.Omega.{arith}
use lib.IntN.{nat_abs}
use Rattle.laws.proofs.Lists.{map_first-done}
use Rattle.curve.specs.declared.Curve.{Curve}
use Rattle.curve.specs.declared.Components.{Components}
use Rattle.curve.specs.Limits.{ProperCurve, zero_node}
use Rattle.curve.specs.Rates.{nodes_of, rate_at}
use Rattle.curve.specs.Scenarios.{scenario_at}
use Rattle.curve.specs.Stress.{stressed, stressed_curve}
use Rattle.curve.proofs.Line.{line}
use Rattle.curve.proofs.Interpolation.{interpolated-line}
use Rattle.curve.proofs.Search.{before-all, passed-interpolated, passed-all}
use Rattle.curve.proofs.Stress.{nodes-stressed, proper-stressed}
use Rattle.estimate.proofs.CurveLines.{node, passed}
use Rattle.bucket.specs.Convexity.{Apart}
use Rattle.bucket.specs.Mapped.{StraightSegment}
use Rattle.bucket.proofs.Straights.{line-straight}
use Rattle.mapping.specs.declared.ranges.Range.{Range}
use Rattle.mapping.specs.Ranges.{Ranges}
use Rattle.mapping.specs.Segments.{segment_of, SegmentLimits, CurveSegment}

-- ---- one rate on every day

level-segment : (rate : ℕ → ℕ) (r from until width most : ℕ) → ((t : ℕ) → from ≤ t → t < until → rate t ≡ r) → r ≤ most → StraightSegment rate from until width most
level-segment rate r from until width most same l =
    record {
      each =
          λ g u v m k.
          rw (same g m (omega arith), same (g + u) (omega arith) (omega arith), same (g + u + v) (omega arith) k)
          (record { under = omega arith; over = omega arith; first = record { above = omega arith; below = omega arith }; second = record { above = omega arith; below = omega arith }; both = record { above = omega arith; below = omega arith }; limit₀ = l; limit = l; limit₁ = l });
    }

-- ---- a line

line-segment : (rate : ℕ → ℕ) (r s from until width most : ℕ) → ((t : ℕ) → from ≤ t → t < until → rate t ≡ line r s (t - from) (until - from)) → Apart r s width → r ≤ most → s ≤ most
    → StraightSegment rate from until width most
line-segment rate r s from until width most same far lr ls =
    record {
      each =
          λ g u v m k.
          let e : g + u - from ≡ g - from + u = omega arith in
          let f : g + u + v - from ≡ g - from + u + v = omega arith in
          rw (same g m (omega arith), same (g + u) (omega arith) (omega arith), same (g + u + v) (omega arith) k, e, f)
          (line-straight r s width far (g - from) u v (until - (g + u + v)) most (width * (u + v) / (until - from) + 1) (until - from) (omega arith) (omega arith) (le_refl _) lr ls);
    }

-- ---- a curve's

module _ (c : Curve) (p : ProperCurve c) where
  first-segment : (width most : ℕ) → (node c 0).rate ≤ most → StraightSegment (rate_at (nodes_of c)) 0 (node c 0).day width most
  first-segment width most l = level-segment _ (node c 0).rate _ _ width most (λ t m k. before-all c t p k) l

  last-segment : (j : ℕ) → suc j ≡ c.count → (width most : ℕ) → (node c j).rate ≤ most → StraightSegment (rate_at (nodes_of c)) (node c j).day 10951 width most
  last-segment j e width most l =
      level-segment _ (node c j).rate _ _ width most (λ t m k. passed-all c t p (node c j) (suc j) (passed c p j t (omega arith) m) (omega arith)) l

  next-segment : (j : ℕ) → suc j < c.count → (width most : ℕ) → Apart (node c j).rate (node c (suc j)).rate width → (node c j).rate ≤ most → (node c (suc j)).rate ≤ most
      → StraightSegment (rate_at (nodes_of c)) (node c j).day (node c (suc j)).day width most
  next-segment j h width most far l k =
      line-segment _ (node c j).rate (node c (suc j)).rate _ _ width most
      (λ t m b.
      passed-interpolated c t p (node c j) (suc j) (passed c p j t (omega arith) m) h b
      ∙ ap nat_abs (interpolated-line (node c j) (node c (suc j)) t (record { from = m; before = b })))
      far l k

-- ---- in a scenario

module _ (c : Curve) (p : ProperCurve c) (x : Components) where
  abbrev in-scenario : ℕ → Curve
  in-scenario s = stressed_curve (scenario_at x s) c

  node-stressed : (s i : ℕ) → i < c.count → node (in-scenario s) i ≡ stressed (scenario_at x s) (node c i)
  unfolding stressed_curve
  node-stressed s i h = map_first-done (stressed (scenario_at x s)) c.count c.nodes i zero_node h (omega (arith, p.places, p.most))

  proper : (s : ℕ) → ProperCurve (in-scenario s)
  proper s = proper-stressed (scenario_at x s) c p

  count-is : (s : ℕ) → (in-scenario s).count ≡ c.count
  unfolding stressed_curve
  count-is s = refl

  module _ (w : Range) where
    segment-limits : (from until : ℕ) → until ≤ 10951 → w.width ≤ 1000000 → w.highest ≤ 1000000 → SegmentLimits (segment_of from until w)
    segment-limits from until h k l = record { until = h; width = k; most = l }

    pub segment-first : Ranges (node c 0) (node c 0) x w → CurveSegment c x (segment_of 0 (node c 0).day w)
    segment-first h =
        record {
          limits = segment-limits 0 (node c 0).day (omega (arith, (p.each 0 (omega (arith, p.least))).day)) h.limits.width h.limits.highest;
          straight =
              λ s m.
              let n = node-stressed s 0 (omega (arith, p.least)) in
              rw n at (rw (nodes-stressed (scenario_at x s) c p) at (first-segment (in-scenario s) (proper s) w.width w.highest (rw n (h.each s m).first)));
        }

    pub segment-last : (j : ℕ) → suc j ≡ c.count → Ranges (node c j) (node c j) x w → CurveSegment c x (segment_of (node c j).day 10951 w)
    segment-last j e h =
        record {
          limits = segment-limits (node c j).day 10951 (omega arith) h.limits.width h.limits.highest;
          straight =
              λ s m.
              let n = node-stressed s j (omega arith) in
              rw n at (rw (nodes-stressed (scenario_at x s) c p) at (last-segment (in-scenario s) (proper s) j (rw (count-is s) e) w.width w.highest (rw n (h.each s m).first)));
        }

    pub segment-next : (j : ℕ) → suc j < c.count → Ranges (node c j) (node c (suc j)) x w → CurveSegment c x (segment_of (node c j).day (node c (suc j)).day w)
    segment-next j k h =
        record {
          limits = segment-limits (node c j).day (node c (suc j)).day (omega (arith, (p.each (suc j) k).day)) h.limits.width h.limits.highest;
          straight =
              λ s m.
              let n = node-stressed s j (omega arith) in
              let o = node-stressed s (suc j) k in
              let spans = h.each s m in
              rw (n, o) at (rw (nodes-stressed (scenario_at x s) c p) at (next-segment (in-scenario s) (proper s) j (rw (count-is s) k) w.width w.highest (rw (n, o) spans.apart) (rw n spans.first) (rw o spans.second)));
        }
