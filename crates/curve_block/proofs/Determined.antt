-- No byte of an accepted curve block is left open: its number, currency, components and nodes determine them all.
use mathlib.Core.Path.{◌≡◌, refl, sym, ◌∙◌, ap}
use mathlib.Core.Bool.{true}
use mathlib.Core.List.{List}
use Prim.Native.Nat.{ℕ, zero, suc, ◌+◌, ◌-◌, ◌≤◌, ◌<◌}
use native.Mathlib.Decide.{dec_lt}
use native.Mathlib.Omega.{arith}
use borrow.Author.Tests.{eqb-true, not-false}
use lib.ListN.{length, get_or}
use lib.Seq.{ext_get_or}
use Rattle.std.specs.Prelude.{Ok}
use Rattle.laws.proofs.Bools.{both}
use Rattle.laws.proofs.Tests.{all-at}
use Rattle.laws.proofs.Every.{every-at}
use Rattle.layout.specs.Bytes.{byte_at, AreBytes}
use Rattle.layout.specs.Field.{number_at, u16_at, u32_at, i32_at}
use Rattle.layout.proofs.Bytes.{zeros-at}
use Rattle.layout.proofs.Field.{field-byte, field_bound, field-determines, signed-determines}
use Rattle.layout.proofs.Sealed.{check-kept, check-same, place_kept}
use Rattle.ground.proofs.Verdicts.{unbroken}
use Rattle.curve.specs.declared.Node.{Node}
use Rattle.curve.specs.declared.Curve.{Curve}
use Rattle.curve.specs.declared.Components.{Components}
use Rattle.curve.specs.Limits.{zero_node}
use Rattle.curve_block.specs.Parts.{currency_of, node_count, node_place, node_at, curve_of, components_of}
use Rattle.curve_block.specs.Rules.{numbers_sound, gap_zero, gaps_zero, unnamed_tests, unnamed_zero, breaks_curve}
use Rattle.curve_block.specs.Verdict.{curve_rules, curve_verdict}
use Rattle.curve_block.proofs.Accepted.{accepted-curve, place}

-- ---- the bytes that the layout does not name

pub record Unnamed (b : List ℕ) : Type 0 where
  pub second : byte_at b 1 ≡ 0
  pub steps : u16_at b 10 ≡ 0
  pub ranges : u16_at b 18 ≡ 0
  pub gaps : (i : ℕ) → i < node_count b → u16_at b (node_place i + 2) ≡ 0
  pub behind : (k : ℕ) → node_place (node_count b) ≤ k → k < 508 → byte_at b k ≡ 0

unnamed-kept : (b : List ℕ) → unnamed_zero b ≡ true → Unnamed b
unfolding unnamed_zero gaps_zero
unnamed-kept b h =
    let at = all-at (unnamed_tests b) h in
    record {
      second = eqb-true (byte_at b 1) 0 (at 0);
      steps = eqb-true (u16_at b 10) 0 (at 1);
      ranges = eqb-true (u16_at b 18) 0 (at 2);
      gaps = λ i l. eqb-true (u16_at b (node_place i + 2)) 0 (every-at (gap_zero b) 0 (node_count b) (at 3) i (omega arith) (omega arith));
      behind = zeros-at b (node_place (node_count b)) 508 (at 4);
    }

pub accepted-unnamed : (b : List ℕ) (k : ℕ) → curve_verdict b k ≡ Ok tt → Unnamed b
unfolding curve_verdict breaks_curve
accepted-unnamed b k h =
    unnamed-kept b (both (numbers_sound b k) (unnamed_zero b) (not-false _ (unbroken k (curve_rules b k) h 2))).1

-- ---- two blocks, byte by byte

module _ (b c : List ℕ) (hb : AreBytes b) (hc : AreBytes c) where
  -- the bytes up to a place are the same
  abbrev Same : ℕ → Type 0
  Same n = (k : ℕ) → k < n → byte_at b k ≡ byte_at c k

  -- a field that is the same takes them from its place to the next
  field : (n at next : ℕ) → at + n ≡ next → Same at → number_at n b at ≡ number_at n c at → Same next
  field n at next p same e k l = go (dec_lt k at)
    where
      go : Dec (k < at) → byte_at b k ≡ byte_at c k
      go (yes h) = same k h
      go (no h) =
          let q : k ≡ at + (k - at) = omega arith in
          rw q (field-determines n b at c at hb hc e (k - at) (omega arith))

  byte : (at next : ℕ) → at + 1 ≡ next → Same at → byte_at b at ≡ byte_at c at → Same next
  byte at next p same e = field 1 at next p same (field-byte b at ∙ e ∙ sym (field-byte c at))

  signed : (at next : ℕ) → at + 4 ≡ next → Same at → i32_at b at ≡ i32_at c at → Same next
  signed at next p same e =
      field 4 at next p same
      (signed-determines 32 (u32_at b at) (u32_at c at) (field_bound 4 b at hb) (field_bound 4 c at hc) e)

  node : (i : ℕ) → Same (node_place i) → u16_at b (node_place i + 2) ≡ u16_at c (node_place i + 2) → node_at b i ≡ node_at c i → Same (node_place (suc i))
  unfolding node_at
  node i same gap e =
      let at = node_place i in
      let day = field 2 at (at + 2) refl same (ap (λ (n : Node). n.day) e) in
      let zeros = field 2 (at + 2) (at + 4) (omega arith) day gap in
      let rate = field 4 (at + 4) (at + 8) (omega arith) zeros (ap (λ (n : Node). n.rate) e) in
      let first = signed (at + 8) (at + 12) (omega arith) rate (ap (λ (n : Node). n.first) e) in
      let second = signed (at + 12) (at + 16) (omega arith) first (ap (λ (n : Node). n.second) e) in
      signed (at + 16) (node_place (suc i)) (omega arith) second (ap (λ (n : Node). n.third) e)

  nodes : (n : ℕ) → Same 20 → ((i : ℕ) → i < n → (u16_at b (node_place i + 2) ≡ u16_at c (node_place i + 2)) × (node_at b i ≡ node_at c i)) → Same (node_place n)
  nodes zero same e = same
  nodes (suc n) same e =
      node n (nodes n same (λ i l. e i (omega arith))) (e n (omega arith)).0 (e n (omega arith)).1

-- ---- the block

-- what two curve blocks hold alike
pub record SameParts (b c : List ℕ) : Type 0 where
  pub currency : currency_of b ≡ currency_of c
  pub components : components_of b ≡ components_of c
  pub curve : curve_of b ≡ curve_of c

count-alike : (b c : List ℕ) → curve_of b ≡ curve_of c → node_count b ≡ node_count c
unfolding curve_of
count-alike b c e = ap (λ (x : Curve). x.count) e

node_alike : (b c : List ℕ) → curve_of b ≡ curve_of c → (i : ℕ) → i < 24 → node_at b i ≡ node_at c i
unfolding curve_of
node_alike b c e i l = sym (place b i l) ∙ ap (λ (x : Curve). get_or x.nodes i zero_node) e ∙ place c i l

module _ (b c : List ℕ) (k : ℕ) (hb : AreBytes b) (hc : AreBytes c) (vb : curve_verdict b k ≡ Ok tt) (vc : curve_verdict c k ≡ Ok tt) (alike : SameParts b c) where
  head : Same b c hb hc 20
  unfolding components_of
  head =
      let sb = accepted-curve b k vb in
      let sc = accepted-curve c k vc in
      let ub = accepted-unnamed b k vb in
      let uc = accepted-unnamed c k vc in
      let pb = place_kept b 2 k sb.place in
      let pc = place_kept c 2 k sc.place in
      let x = alike.components in
      let kind = byte b c hb hc 0 1 refl (λ j l. absurd (omega arith)) (pb.0 ∙ sym pc.0) in
      let one = byte b c hb hc 1 2 refl kind (ub.second ∙ sym uc.second) in
      let number = field b c hb hc 2 2 4 refl one (pb.1 ∙ sym pc.1) in
      let id = byte b c hb hc 4 5 refl number (sb.id ∙ sym sc.id) in
      let currency = byte b c hb hc 5 6 refl id alike.currency in
      let count = byte b c hb hc 6 7 refl currency (count-alike b c alike.curve) in
      let first-steps = byte b c hb hc 7 8 refl count (ap (λ (y : Components). y.first.steps) x) in
      let second-steps = byte b c hb hc 8 9 refl first-steps (ap (λ (y : Components). y.second.steps) x) in
      let third-steps = byte b c hb hc 9 10 refl second-steps (ap (λ (y : Components). y.third.steps) x) in
      let blank = field b c hb hc 2 10 12 refl third-steps (ub.steps ∙ sym uc.steps) in
      let first_range = field b c hb hc 2 12 14 refl blank (ap (λ (y : Components). y.first.range) x) in
      let second_range = field b c hb hc 2 14 16 refl first_range (ap (λ (y : Components). y.second.range) x) in
      let third-range = field b c hb hc 2 16 18 refl second_range (ap (λ (y : Components). y.third.range) x) in
      field b c hb hc 2 18 20 refl third-range (ub.ranges ∙ sym uc.ranges)

  body : Same b c hb hc (node_place (node_count b))
  unfolding curve_of
  body =
      let ub = accepted-unnamed b k vb in
      let uc = accepted-unnamed c k vc in
      let e = count-alike b c alike.curve in
      let most = (accepted-curve b k vb).curve.most in
      nodes b c hb hc (node_count b) head
      (λ i l. (ub.gaps i l ∙ sym (uc.gaps i (omega arith)), node_alike b c alike.curve i (omega arith)))

  up-to-check : Same b c hb hc 508
  up-to-check j l = go (dec_lt j (node_place (node_count b)))
    where
      go : Dec (j < node_place (node_count b)) → byte_at b j ≡ byte_at c j
      go (yes h) = body j h
      go (no h) =
          let e = count-alike b c alike.curve in
          (accepted-unnamed b k vb).behind j (omega arith) l ∙ sym ((accepted-unnamed c k vc).behind j (omega arith) l)

  pub bytes-determined : length b ≡ 512 → length c ≡ 512 → b ≡ c
  bytes-determined lb lc =
      let same = check-same b c up-to-check in
      let kept = check-kept b (accepted-curve b k vb).check ∙ same ∙ sym (check-kept c (accepted-curve c k vc).check) in
      let whole = field b c hb hc 4 508 512 refl up-to-check kept in
      ext_get_or 0 b c (lb ∙ sym lc) (λ j l. whole j (omega arith))
