-- A line's rate is document 01's, and 64 bits hold where the line stands.
use mathlib.Core.Path.{◌≡◌, refl, sym, ap, ◌∙◌}
use mathlib.Core.Bool.{Bool, true, false, cond}
use Prim.Native.Nat.{ℕ, ◌+◌, ◌-◌, ◌*◌, ◌/◌, ◌≤◌, ◌<◌}
use native.Mathlib.Nat.{mul-le-mul, mul-le-mul_right, mul-sub, zero-mul, div-mul-le_self, lt-div-mul-add, div-eq_of_lt-le, mul-add-div_right, le_trans}
use native.Mathlib.Omega.{arith}
use borrow.Author.Tests.{leb-true, leb-false}
use lib.Dec.{leb}
use lib.IntN.{ℤ, pos, neg_ℤ, nat_abs, ◌+ℤ◌, ◌-ℤ◌, ◌*ℤ◌, +ℤ_assoc, +ℤ_comm, neg_ℤ-neg_ℤ, pos-+ℤ-pos}
use Rattle.laws.proofs.Powers.{sub-mul}
use Rattle.laws.proofs.Signed.{abs-sub, abs_neg, abs-mul-le, sub-up, mul-neg}
use Rattle.curve.specs.declared.Node.{Node}
use Rattle.curve.specs.Limits.{highest_rate}
use Rattle.curve.specs.Rates.{interpolated, BetweenNodes}
use Rattle.curve.proofs.Line.{part-le, line-up, line-down}
use Rattle.curve.proofs.Interpolation.{interpolated-line, interpolated-size}
use Rattle.estimate.specs.Lines.{line_scale, slope_of, level, line_from, rising, falling, line_of, stands_at, rate_on, Ahead, Drawn, steepest}
use Rattle.estimate.proofs.Slopes.{slope-exact, slope-size}

line-scale-pos : 0 < line_scale
unfolding line_scale
line-scale-pos = omega arith

-- ---- where a line stands, from a node's rate r in parts

-- risen by z, of which y came before the node
risen : (r y z : ℕ) → y ≤ z → (pos r -ℤ pos y) +ℤ pos z ≡ pos (r + (z - y))
risen r y z h = +ℤ_assoc (pos r) (neg_ℤ (pos y)) (pos z) ∙ ap (λ (k : ℤ). pos r +ℤ k) (+ℤ_comm (neg_ℤ (pos y)) (pos z) ∙ sub-up z y h)

-- fallen by x, with n parts to a rate
module _ (r n x : ℕ) (some : 0 < n) (less : x / n ≤ r) where
  fall-le : x ≤ r * n + (n - 1)
  fall-le = omega (arith, lt-div-mul-add {a = x} some, mul-le-mul_right n less)

  fallen : (r * n + (n - 1) - x) / n ≡ r - x / n
  fallen =
      let e : (r - x / n) * n ≡ r * n - x / n * n = sub-mul r (x / n) n in
      let a = div-mul-le_self x n in
      let b = lt-div-mul-add {a = x} some in
      let c = mul-le-mul_right n less in
      div-eq_of_lt-le n (omega arith) (omega arith)

-- ---- from node a to node b

module _ (a b : Node) (t : ℕ) (h : Ahead a b) (m : BetweenNodes a b t) where
  abbrev gone : ℕ
  gone = t - a.day

  abbrev run : ℕ
  run = b.day - a.day

  room : (gone + 1) * run ≤ line_scale
  unfolding line_scale
  room = le_trans (mul-le-mul {n₂ = 10950} {m₂ = 10950} (omega arith) (omega arith)) (omega arith)

  -- the way gone, as document 01 cuts it
  way-is : (way : ℕ) → slope_of way run * gone / line_scale ≡ way * gone / run
  unfolding slope_of
  way-is way = slope-exact line_scale way gone run (omega arith) room

  days-split : (s : ℕ) → s * t ≡ s * a.day + s * gone
  days-split s = omega (arith, mul-sub s t a.day, mul-le-mul_right s m.from)

  -- where it stands on day 0 is in bounds
  start-size : (above : ℕ) (slope : ℤ) → above ≤ line_scale → nat_abs slope ≤ steepest → nat_abs (line_from a above slope).start ≤ 2000000000000000000
  unfolding line_scale
  start-size above slope k l =
      omega (arith, abs-sub (pos (a.rate * 134217728 + above)) (slope *ℤ pos a.day), abs-mul-le slope (pos a.day) {m = 140000000000000} {n = 10950} l h.from.day, h.from.rate)

  -- it rises
  module _ (l : a.rate ≤ b.rate) where
    abbrev climb : ℕ
    climb = slope_of (b.rate - a.rate) run

    rising-stands : stands_at (rising a b) t ≡ pos (a.rate * line_scale + climb * gone)
    unfolding rising
    rising-stands =
        let e = days-split climb in
        risen (a.rate * line_scale + 0) (climb * a.day) (climb * t) (omega arith) ∙ ap pos (omega arith)

    rising-rate : rate_on (rising a b) t ≡ nat_abs (interpolated a b t)
    unfolding rate_on
    rising-rate =
        rw (rising-stands, mul-add-div_right line-scale-pos a.rate (climb * gone), way-is (b.rate - a.rate), interpolated-line a b t m)
        (sym (line-up a.rate b.rate gone run l))

    rising-drawn : Drawn (rising a b) t
    unfolding rising
    rising-drawn =
        let s : climb ≤ steepest = slope-size (b.rate - a.rate) run (omega (arith, h.to.rate)) in
        record {
          day = omega arith;
          start = start-size 0 (pos climb) (omega arith) s;
          slope = s;
          above = rw rising-stands refl;
          rate = rw rising-rate (interpolated-size a b t (h.from, h.to, m));
        }

  -- it falls
  module _ (l : b.rate < a.rate) where
    abbrev drop : ℕ
    drop = slope_of (a.rate - b.rate) run

    drop-less : drop * gone / line_scale ≤ a.rate
    drop-less = rw (way-is (a.rate - b.rate)) (omega (arith, part-le (a.rate - b.rate) gone run (omega arith)))

    falling-stands : stands_at (falling a b) t ≡ pos (a.rate * line_scale + (line_scale - 1) - drop * gone)
    unfolding falling
    falling-stands =
        let e = days-split drop in
        let f = fall-le a.rate line_scale (drop * gone) line-scale-pos drop-less in
        rw (mul-neg drop a.day, mul-neg drop t, neg_ℤ-neg_ℤ (pos (drop * a.day)), pos-+ℤ-pos (a.rate * line_scale + (line_scale - 1)) (drop * a.day))
        (sub-up (a.rate * line_scale + (line_scale - 1) + drop * a.day) (drop * t) (omega arith) ∙ ap pos (omega arith))

    falling-rate : rate_on (falling a b) t ≡ nat_abs (interpolated a b t)
    unfolding rate_on
    falling-rate =
        rw (falling-stands, fallen a.rate line_scale (drop * gone) line-scale-pos drop-less, way-is (a.rate - b.rate), interpolated-line a b t m)
        (sym (line-down a.rate b.rate gone run l))

    falling-drawn : Drawn (falling a b) t
    unfolding falling
    falling-drawn =
        let s : nat_abs (neg_ℤ (pos drop)) ≤ steepest = rw (abs_neg (pos drop)) (slope-size (a.rate - b.rate) run (omega (arith, h.from.rate))) in
        record {
          day = omega arith;
          start = start-size (line_scale - 1) (neg_ℤ (pos drop)) (omega arith) s;
          slope = s;
          above = rw falling-stands refl;
          rate = rw falling-rate (interpolated-size a b t (h.from, h.to, m));
        }

  pub line-rate : rate_on (line_of a b) t ≡ nat_abs (interpolated a b t)
  unfolding line_of
  line-rate = go (leb a.rate b.rate) refl
    where
      go : (q : Bool) → leb a.rate b.rate ≡ q → rate_on (cond q (rising a b) (falling a b)) t ≡ nat_abs (interpolated a b t)
      go true e = rising-rate (leb-true a.rate b.rate e)
      go false e = falling-rate (leb-false a.rate b.rate e)

  pub line-drawn : Drawn (line_of a b) t
  unfolding line_of
  line-drawn = go (leb a.rate b.rate) refl
    where
      go : (q : Bool) → leb a.rate b.rate ≡ q → Drawn (cond q (rising a b) (falling a b)) t
      go true e = rising-drawn (leb-true a.rate b.rate e)
      go false e = falling-drawn (leb-false a.rate b.rate e)

-- ---- a level line

module _ (rate t : ℕ) where
  level-stands : stands_at (level rate) t ≡ pos (rate * line_scale)
  unfolding level
  level-stands = ap pos (omega (arith, zero-mul t))

  pub level-rate : rate_on (level rate) t ≡ rate
  unfolding rate_on
  level-rate = rw level-stands (div-eq_of_lt-le line_scale (omega arith) (omega (arith, line-scale-pos)))

  pub level-drawn : rate ≤ highest_rate → t ≤ 10950 → Drawn (level rate) t
  unfolding level line_scale
  level-drawn h k =
      record { day = k; start = omega arith; slope = omega arith; above = rw level-stands refl; rate = rw level-rate h }
