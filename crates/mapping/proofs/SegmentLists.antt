-- The segments of a curve, listed one behind the other.
use mathlib.Core.Path.{◌≡◌}
use mathlib.Core.List.{List, []}
use Prim.Native.Nat.{ℕ, suc, ◌+◌, ◌-◌, ◌<◌}
use native.Mathlib.Omega.{arith}
use borrow.Author.Count.{below_more}
use lib.ListN.{length, set, take, length-set}
use lib.Seq.{get_or-set_same, get_or-set_other, get_or-take, length-take-le}
use Rattle.curve.specs.declared.Curve.{Curve}
use Rattle.curve.specs.declared.Components.{Components}
use Rattle.curve.specs.Limits.{ProperCurve}
use Rattle.estimate.proofs.CurveLines.{node}
use Rattle.mapping.specs.Ranges.{range_of}
use Rattle.mapping.specs.declared.segments.Segment.{Segment}
use Rattle.mapping.specs.Segments.{segment_of, segment_at, CurveSegment, Segments}
use Rattle.mapping.proofs.RangeLaws.{ranges}
use Rattle.mapping.proofs.StraightSegments.{segment-first, segment-next, segment-last}

-- the first i segments
pub record Listing (c : Curve) (x : Components) (segments : List Segment) (i : ℕ) : Type 0 where
  pub places : length segments ≡ 25
  pub each : (j : ℕ) → j < i → CurveSegment c x (segment_at segments j)

module _ (c : Curve) (p : ProperCurve c) (x : Components) (segments : List Segment) where
  -- and one more
  more : (i : ℕ) → i < 25 → Listing c x segments i → (g : Segment) → CurveSegment c x g → Listing c x (set segments i g) (i + 1)
  more i l h g r =
      record {
        places = rw (length-set segments i g) h.places;
        each =
            below_more _ _
            (λ j m. rw (get_or-set_other segments i j g (segment_at [] 0) (λ e. absurd (omega arith))) (h.each j m))
            (rw (get_or-set_same segments i g (segment_at [] 0) (omega (arith, h.places))) r);
      }

  pub listing-first : length segments ≡ 25 → Listing c x (set segments 0 (segment_of 0 (node c 0).day (range_of (node c 0) (node c 0) x))) 1
  listing-first e =
      more 0 (omega arith) (record { places = e; each = λ j m. absurd (omega arith) }) _ (segment-first c p x _ (ranges _ _ _))

  module _ (i : ℕ) (h : Listing c x segments i) (some : 0 < i) where
    pub listing-next : i < c.count → Listing c x (set segments i (segment_of (node c (i - 1)).day (node c i).day (range_of (node c (i - 1)) (node c i) x))) (i + 1)
    listing-next k =
        let e : suc (i - 1) ≡ i = omega arith in
        more i (omega (arith, p.most)) h _ (rw e at (segment-next c p x _ (i - 1) (omega arith) (ranges _ _ _)))

    pub listing-last : i ≡ c.count
        → Segments c x (take (c.count + 1) (set segments c.count (segment_of (node c (c.count - 1)).day 10951 (range_of (node c (c.count - 1)) (node c (c.count - 1)) x))))
    listing-last e =
        let g = segment_of (node c (c.count - 1)).day 10951 (range_of (node c (c.count - 1)) (node c (c.count - 1)) x) in
        let r : CurveSegment c x g = segment-last c p x _ (c.count - 1) (omega (arith, p.least)) (ranges _ _ _) in
        let all : Listing c x (set segments c.count g) (c.count + 1) = more c.count (omega (arith, p.most)) (rw e at h) g r in
        record {
          each =
              λ j m.
              let l : j < c.count + 1 = omega (arith, rw (length-take-le (c.count + 1) (set segments c.count g) (omega (arith, all.places, p.most))) at m) in
              rw (get_or-take (c.count + 1) (set segments c.count g) j (segment_at [] 0) l) (all.each j l);
        }
