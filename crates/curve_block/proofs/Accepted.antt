-- What a curve block that nothing breaks gives its user: a curve and components in their limits.
use mathlib.Core.Path.{◌≡◌, ◌∙◌, ap}
use mathlib.Core.Bool.{true, false, ◌&&◌, ◌||◌}
use mathlib.Core.List.{List}
use Prim.Native.Nat.{ℕ, suc, ◌≤◌, ◌<◌}
use native.Mathlib.Nat.{zero-add}
use native.Mathlib.Omega.{arith}
use borrow.Author.Tests.{eqb-true, leb-true, ltb-true, not-false, ne_eqb}
use lib.Dec.{eqb, leb, ltb}
use lib.IntN.{ℤ, pos, negsuc, nat_abs}
use lib.ListN.{get_or}
use Rattle.std.specs.Prelude.{Ok}
use Rattle.laws.specs.Every.{every}
use Rattle.laws.specs.Walk.{table}
use Rattle.laws.proofs.Bools.{both}
use Rattle.laws.proofs.Tests.{all-at}
use Rattle.laws.proofs.Every.{every-at}
use Rattle.laws.proofs.Walk.{length-table, get_d-table}
use Rattle.ground.specs.Limits.{last_day}
use Rattle.layout.specs.Check.{breaks_check, breaks_place}
use Rattle.ground.proofs.Verdicts.{unbroken}
use Rattle.curve.specs.declared.Node.{Node}
use Rattle.curve.specs.declared.Component.{Component}
use Rattle.curve.specs.Limits.{NodeLimits, ProperCurve, ComponentLimits, ProperComponents, zero_node}
use Rattle.curve_block.specs.Parts.{id_of, currency_of, node_count, node_at, curve_of, components_of}
use Rattle.curve_block.specs.Rules.{steps_sound, number_tests, numbers_sound, unnamed_zero, breaks_curve, component_sound, node_tests, node_sound, day_before, sound_at, breaks_node}
use Rattle.curve_block.specs.Verdict.{curve_rules, curve_verdict}

-- ---- ground 5

pub numbers-kept : (b : List ℕ) (k : ℕ) → breaks_curve b k ≡ false → numbers_sound b k ≡ true
unfolding breaks_curve
numbers-kept b k h = (both (numbers_sound b k) (unnamed_zero b) (not-false (numbers_sound b k && unnamed_zero b) h)).0

pub count_most : (b : List ℕ) (k : ℕ) → numbers_sound b k ≡ true → node_count b ≤ 24
unfolding numbers_sound
count_most b k h = leb-true (node_count b) 24 (all-at (number_tests b k) h 4)

steps-kept : (x : Component) → steps_sound x ≡ true → ComponentLimits x
unfolding steps_sound
steps-kept x h =
    let t = both (leb x.steps 3) (leb x.range 10000) h in
    record { steps = leb-true x.steps 3 t.0; range = leb-true x.range 10000 t.1 }

-- ---- ground 6

pub component-kept : (z : ℤ) → component_sound z ≡ true → nat_abs z ≤ 1000000
unfolding component_sound
component-kept (pos n) h = leb-true n 1000000 h
component-kept (negsuc n) h = let l : n ≤ 999999 = leb-true n 999999 (both (leb n 999999) true h).0 in omega arith

module _ (i before : ℕ) (n : Node) (h : node_sound i before n ≡ true) where
  node_kept : NodeLimits n
  unfolding node_sound
  node_kept =
      let at = all-at (node_tests i before n) h in
      record {
        day = leb-true n.day last_day (at 1);
        rate = leb-true n.rate 1000000 (at 2);
        first = component-kept n.first (at 3);
        second = component-kept n.second (at 4);
        third = component-kept n.third (at 5);
      }

  rise-kept : (eqb i 0 || ltb before n.day) ≡ true
  unfolding node_sound
  rise-kept = all-at (node_tests i before n) h 0

module _ (b : List ℕ) (h : breaks_node b ≡ false) where
  sound-at : (i : ℕ) → i < node_count b → sound_at b i ≡ true
  unfolding breaks_node
  sound-at i l = every-at (sound_at b) 0 (node_count b) (not-false (every (sound_at b) 0 (node_count b)) h) i (omega arith) (omega arith)

  days-rise : (i : ℕ) → suc i < node_count b → (node_at b i).day < (node_at b (suc i)).day
  unfolding day_before
  days-rise i l =
      ltb-true (node_at b i).day (node_at b (suc i)).day
      (rw (ne_eqb (suc i) 0 (λ e. omega arith)) at (rise-kept (suc i) (node_at b i).day (node_at b (suc i)) (sound-at (suc i) l)))

-- ---- the block

-- the node in place i of the curve's array
pub place : (b : List ℕ) (i : ℕ) → i < 24 → get_or (table (node_at b) 0 24) i zero_node ≡ node_at b i
place b i l = get_d-table (node_at b) 0 24 i zero_node l ∙ ap (node_at b) (zero-add i)

pub proper-curve : (b : List ℕ) (k : ℕ) → numbers_sound b k ≡ true → breaks_node b ≡ false → ProperCurve (curve_of b)
unfolding curve_of numbers_sound
proper-curve b k h g =
    let at = all-at (number_tests b k) h in
    let most = leb-true (node_count b) 24 (at 4) in
    record {
      places = length-table (node_at b) 0 24;
      least = leb-true 2 (node_count b) (at 3);
      most = most;
      each = λ i l. rw (place b i (omega arith)) (node_kept i (day_before b i) (node_at b i) (sound-at b g i l));
      rising = λ i l. rw (place b i (omega arith), place b (suc i) (omega arith)) (days-rise b g i l);
    }

pub proper-components : (b : List ℕ) (k : ℕ) → numbers_sound b k ≡ true → ProperComponents (components_of b)
unfolding numbers_sound
proper-components b k h =
    let at = all-at (number_tests b k) h in
    record {
      first = steps-kept (components_of b).first (at 5);
      second = steps-kept (components_of b).second (at 6);
      third = steps-kept (components_of b).third (at 7);
    }

-- of curve block k
pub record SoundCurve (b : List ℕ) (k : ℕ) : Type 0 where
  pub check : breaks_check b ≡ false
  pub place : breaks_place b 2 k ≡ false
  pub id : id_of b ≡ k
  pub least : 1 ≤ currency_of b
  pub most : currency_of b ≤ 3
  pub curve : ProperCurve (curve_of b)
  pub components : ProperComponents (components_of b)

pub accepted-curve : (b : List ℕ) (k : ℕ) → curve_verdict b k ≡ Ok tt → SoundCurve b k
unfolding curve_verdict numbers_sound
accepted-curve b k h =
    let kept = unbroken k (curve_rules b k) h in
    let numbers = numbers-kept b k (kept 2) in
    let at = all-at (number_tests b k) numbers in
    record {
      check = kept 0;
      place = kept 1;
      id = eqb-true (id_of b) k (at 0);
      least = leb-true 1 (currency_of b) (at 1);
      most = leb-true (currency_of b) 3 (at 2);
      curve = proper-curve b k numbers (kept 3);
      components = proper-components b k numbers;
    }
