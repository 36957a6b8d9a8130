-- A curve block whose curve, components and unnamed bytes are in their limits breaks nothing.
use mathlib.Core.Path.{◌≡◌, refl}
use mathlib.Core.Bool.{true, false, ◌||◌}
use mathlib.Core.List.{List}
use Prim.Native.Nat.{ℕ, zero, suc, ◌+◌, ◌≤◌, ◌<◌}
use native.Mathlib.Omega.{arith}
use borrow.Author.Tests.{eq-eqb, ne_eqb, le-leb, lt-ltb}
use lib.Dec.{eqb, ltb}
use lib.IntN.{ℤ, pos, negsuc, nat_abs}
use Rattle.std.specs.Prelude.{Ok}
use Rattle.laws.proofs.Every.{every_of}
use Rattle.ground.specs.Limits.{last_day}
use Rattle.layout.specs.Bytes.{byte_at}
use Rattle.layout.specs.Field.{u16_at}
use Rattle.layout.proofs.Bytes.{zeros_of}
use Rattle.curve.specs.declared.Node.{Node}
use Rattle.curve.specs.declared.Component.{Component}
use Rattle.curve.specs.Limits.{NodeLimits, ProperCurve, ComponentLimits}
use Rattle.curve_block.specs.Parts.{id_of, currency_of, node_count, node_place, node_at, curve_of, components_of}
use Rattle.curve_block.specs.Rules.{steps_sound, numbers_sound, gap_zero, gaps_zero, unnamed_zero, breaks_curve, component_sound, node_sound, day_before, sound_at, breaks_node}
use Rattle.curve_block.specs.Verdict.{curve_verdict}
use Rattle.curve_block.proofs.Accepted.{place, SoundCurve}
use Rattle.curve_block.proofs.Determined.{Unnamed}

-- ---- ground 5

steps-sound : (x : Component) → ComponentLimits x → steps_sound x ≡ true
unfolding steps_sound
steps-sound x h = rw (le-leb x.steps 3 h.steps, le-leb x.range 10000 h.range)

numbers-sound : (b : List ℕ) (k : ℕ) → SoundCurve b k → numbers_sound b k ≡ true
unfolding numbers_sound curve_of
numbers-sound b k s =
    rw (
      eq-eqb (id_of b) k s.id,
      le-leb 1 (currency_of b) s.least,
      le-leb (currency_of b) 3 s.most,
      le-leb 2 (node_count b) s.curve.least,
      le-leb (node_count b) 24 s.curve.most,
      steps-sound (components_of b).first s.components.first,
      steps-sound (components_of b).second s.components.second,
      steps-sound (components_of b).third s.components.third,
    )

unnamed-sound : (b : List ℕ) → Unnamed b → unnamed_zero b ≡ true
unfolding unnamed_zero gaps_zero
unnamed-sound b u =
    rw (
      eq-eqb (byte_at b 1) 0 u.second,
      eq-eqb (u16_at b 10) 0 u.steps,
      eq-eqb (u16_at b 18) 0 u.ranges,
      every_of (gap_zero b) 0 (node_count b) (λ i l m. eq-eqb (u16_at b (node_place i + 2)) 0 (u.gaps i (omega arith))),
      zeros_of b (node_place (node_count b)) 508 u.behind,
    )

-- ---- ground 6

component-sound : (z : ℤ) → nat_abs z ≤ 1000000 → component_sound z ≡ true
unfolding component_sound
component-sound (pos n) h = le-leb n 1000000 h
component-sound (negsuc n) h = rw (le-leb n 999999 (omega arith))

node-sound : (i before : ℕ) (n : Node) → NodeLimits n → (eqb i 0 || ltb before n.day) ≡ true → node_sound i before n ≡ true
unfolding node_sound
node-sound i before n h rise =
    rw (
      rise,
      le-leb n.day last_day h.day,
      le-leb n.rate 1000000 h.rate,
      component-sound n.first h.first,
      component-sound n.second h.second,
      component-sound n.third h.third,
    )

module _ (b : List ℕ) (p : ProperCurve (curve_of b)) where
  limits-at : (i : ℕ) → i < node_count b → NodeLimits (node_at b i)
  unfolding curve_of
  limits-at i l = rw (place b i (omega (arith, p.most))) at (p.each i l)

  rising-at : (i : ℕ) → suc i < node_count b → (node_at b i).day < (node_at b (suc i)).day
  unfolding curve_of
  rising-at i l = rw (place b i (omega (arith, p.most)), place b (suc i) (omega (arith, p.most))) at (p.rising i l)

  each-sound : (i : ℕ) → i < node_count b → sound_at b i ≡ true
  unfolding day_before
  each-sound zero l = node-sound 0 0 (node_at b 0) (limits-at 0 l) refl
  each-sound (suc i) l =
      node-sound (suc i) (node_at b i).day (node_at b (suc i)) (limits-at (suc i) l)
      (rw (ne_eqb (suc i) 0 (λ e. omega arith)) (lt-ltb (node_at b i).day (node_at b (suc i)).day (rising-at i l)))

  nodes-sound : breaks_node b ≡ false
  unfolding breaks_node
  nodes-sound = rw (every_of (sound_at b) 0 (node_count b) (λ i l m. each-sound i (omega arith)))

-- ---- the block

pub curve-accepted : (b : List ℕ) (k : ℕ) → SoundCurve b k → Unnamed b → curve_verdict b k ≡ Ok tt
unfolding curve_verdict breaks_curve
curve-accepted b k s u = rw (s.check, s.place, numbers-sound b k s, unnamed-sound b u, nodes-sound b s.curve)
