-- A curve block with one node more holds the curve with that node, and nothing else is changed: it is accepted where the node may follow the last.
use mathlib.Core.Path.{◌≡◌, refl, sym, ◌∙◌}
use mathlib.Core.Logic.{◌⊎◌, inl, inr}
use mathlib.Core.Bool.{false}
use mathlib.Core.List.{List, [], ◌∷◌, ◌++◌}
use Prim.Native.Nat.{ℕ, ◌+◌, ◌≤◌, ◌<◌}
use native.Mathlib.Nat.{add-zero}
use native.Mathlib.Decide.{ℕ_discrete, dec_lt}
use native.Mathlib.Omega.{arith}
use lib.IntN.{ℤ, nat_abs}
use lib.ListN.{length, get_or, set, length-append, length-set}
use lib.Seq.{get_or-set_same, get_or-set_other}
use Rattle.laws.specs.Walk.{table}
use Rattle.laws.proofs.Signed.{mag-abs}
use Rattle.laws.proofs.Walk.{length-table}
use Rattle.laws.proofs.Tables.{table-by}
use Rattle.std.specs.Prelude.{Ok}
use Rattle.layout.specs.Bytes.{byte_at, put, AreBytes}
use Rattle.layout.specs.Field.{number_at, u16_at, bytes_of, signed_of, twos}
use Rattle.layout.specs.Check.{sealed, breaks_place}
use Rattle.layout.proofs.Bytes.{length-put, put_byte, bytes-set, bytes-put, bytes-append}
use Rattle.layout.proofs.Field.{field-byte, length-bytes, bytes-bytes, number-bytes, field-of-put, field_apart, signed-bytes}
use Rattle.layout.proofs.Sealed.{length-sealed, bytes-sealed, byte-sealed, field-sealed, sealed-sound}
use Rattle.curve.specs.declared.Node.{Node}
use Rattle.curve.specs.Limits.{NodeLimits, zero_node}
use Rattle.curve.specs.Rates.{nodes_of}
use Rattle.curve.specs.Lengthen.{end_day, lengthened_curve}
use Rattle.curve.proofs.Lengthened.{nodes-lengthened, proper-lengthened}
use Rattle.curve_block.specs.Parts.{currency_of, node_count, node_place, node_at, curve_of, components_of}
use Rattle.curve_block.specs.Verdict.{curve_verdict}
use Rattle.curve_edit.specs.Lengthen.{node_bytes, with_node}
use Rattle.curve_block.proofs.Accepted.{SoundCurve, accepted-curve, place}
use Rattle.curve_block.proofs.Determined.{Unnamed, accepted-unnamed}
use Rattle.curve_block.proofs.Sound.{curve-accepted}

-- ---- the node's bytes

module _ (n : Node) where
  length-node : length (node_bytes n) ≡ 20
  unfolding node_bytes
  length-node = simp (length-append, length-bytes) refl

  bytes-node : AreBytes (node_bytes n)
  unfolding node_bytes
  bytes-node = search (bytes-append, bytes-bytes) depth 8

  node-gap : number_at 2 (node_bytes n) 2 ≡ 0
  unfolding node_bytes number_at bytes_of
  node-gap = refl

-- its fields, of a node in its limits
record NodeFields (n : Node) : Type 0 where
  day : number_at 2 (node_bytes n) 0 ≡ n.day
  rate : number_at 4 (node_bytes n) 4 ≡ n.rate
  first : signed_of 32 (number_at 4 (node_bytes n) 8) ≡ n.first
  second : signed_of 32 (number_at 4 (node_bytes n) 12) ≡ n.second
  third : signed_of 32 (number_at 4 (node_bytes n) 16) ≡ n.third

component-back : (z : ℤ) → nat_abs z ≤ 1000000 → signed_of 32 (number_at 4 (bytes_of 4 (twos z)) 0) ≡ z
component-back z h = signed-bytes 4 z (omega arith) (omega arith) (omega (arith, mag-abs z))

node-fields : (n : Node) → NodeLimits n → NodeFields n
unfolding node_bytes number_at bytes_of
node-fields n h =
    record {
      day = number-bytes 2 n.day (omega (arith, h.day));
      rate = number-bytes 4 n.rate (omega (arith, h.rate));
      first = component-back n.first h.first;
      second = component-back n.second h.second;
      third = component-back n.third h.third;
    }

-- ---- the block's

module _ (n : Node) (b : List ℕ) where
  abbrev at : ℕ
  at = node_place (node_count b)

  abbrev written : List ℕ
  written = put b at (node_bytes n)

  -- before its check is written
  abbrev unsealed : List ℕ
  unsealed = set written 6 (node_count b + 1)

  is-with-node : with_node n b ≡ sealed unsealed
  unfolding with_node
  is-with-node = refl

  length-unsealed : length unsealed ≡ length b
  length-unsealed = length-set written 6 (node_count b + 1) ∙ length-put b at (node_bytes n)

  -- a field that is not the count
  abbrev NotCount : ℕ → ℕ → Type 0
  NotCount m k = (k + m ≤ 6) ⊎ (7 ≤ k)

  field-written : (m k : ℕ) → NotCount m k → k + m ≤ 508 → number_at m (with_node n b) k ≡ number_at m written k
  field-written m k apart l =
      rw (is-with-node, ← put_byte written 6 (node_count b + 1)) (field-sealed m (put written 6 ((node_count b + 1) ∷ [])) k l ∙ field_apart m written 6 ((node_count b + 1) ∷ []) k apart)

  -- a field apart from it and from the node
  field-kept : (m k : ℕ) → NotCount m k → (k + m ≤ at) ⊎ (at + 20 ≤ k) → k + m ≤ 508 → number_at m (with_node n b) k ≡ number_at m b k
  field-kept m k other apart l =
      field-written m k other l ∙ field_apart m b at (node_bytes n) k (rw (length-node n) apart)

  byte-kept : (k : ℕ) → NotCount 1 k → (k + 1 ≤ at) ⊎ (at + 20 ≤ k) → k + 1 ≤ 508 → byte_at (with_node n b) k ≡ byte_at b k
  byte-kept k other apart l =
      sym (field-byte (with_node n b) k) ∙ field-kept 1 k other apart l ∙ field-byte b k

  -- what stands before the count, and between it and the nodes
  first_byte : (k : ℕ) → k < 6 → byte_at (with_node n b) k ≡ byte_at b k
  first_byte k l = byte-kept k (inl (omega arith)) (inl (omega arith)) (omega arith)

  head_byte : (k : ℕ) → 7 ≤ k → k < 20 → byte_at (with_node n b) k ≡ byte_at b k
  head_byte k l h = byte-kept k (inr l) (inl (omega arith)) (omega arith)

  head-field : (k : ℕ) → 7 ≤ k → k + 2 ≤ 20 → u16_at (with_node n b) k ≡ u16_at b k
  head-field k l h = field-kept 2 k (inr l) (inl (omega arith)) (omega arith)

  number-kept : u16_at (with_node n b) 2 ≡ u16_at b 2
  number-kept = field-kept 2 2 (inl (omega arith)) (inl (omega arith)) (omega arith)

  pub currency-with-node : currency_of (with_node n b) ≡ currency_of b
  currency-with-node = first_byte 5 (omega arith)

  pub components-with-node : components_of (with_node n b) ≡ components_of b
  unfolding components_of
  components-with-node =
      rw (
        head_byte 7 (omega arith) (omega arith),
        head_byte 8 (omega arith) (omega arith),
        head_byte 9 (omega arith) (omega arith),
        head-field 12 (omega arith) (omega arith),
        head-field 14 (omega arith) (omega arith),
        head-field 16 (omega arith) (omega arith),
      )

  -- another node's
  node-field : (i : ℕ) → i < 24 → (i ≡ node_count b → ⊥) → (m k : ℕ) → k + m ≤ 20 → number_at m (with_node n b) (node_place i + k) ≡ number_at m b (node_place i + k)
  node-field i most other m k l = field-kept m (node_place i + k) (inr (omega arith)) (side (dec_lt i (node_count b))) (omega arith)
    where
      side : Dec (i < node_count b) → (node_place i + k + m ≤ at) ⊎ (at + 20 ≤ node_place i + k)
      side (yes h) = inl (omega arith)
      side (no h) = inr (omega arith)

  node_kept : (i : ℕ) → i < 24 → (i ≡ node_count b → ⊥) → node_at (with_node n b) i ≡ node_at b i
  unfolding node_at
  node_kept i most other =
      let field = node-field i most other in
      let day = simp add-zero at (field 2 0 (omega arith)) in
      rw (day, field 4 4 (omega arith), field 4 8 (omega arith), field 4 12 (omega arith), field 4 16 (omega arith))

  module _ (long : length b ≡ 512) (room : node_count b < 24) where
    count-with-node : node_count (with_node n b) ≡ node_count b + 1
    count-with-node =
        rw is-with-node
        (byte-sealed unsealed 6 (inl (omega arith)) ∙ get_or-set_same written 6 (node_count b + 1) 0 (omega (arith, length-put b at (node_bytes n))))

    -- the new node's
    field-new : (m k : ℕ) → k + m ≤ 20 → number_at m (with_node n b) (at + k) ≡ number_at m (node_bytes n) k
    field-new m k l =
        let e = length-node n in
        field-written m (at + k) (inr (omega arith)) (omega arith) ∙ field-of-put m b at (node_bytes n) k (omega arith) (omega arith)

    node-new : NodeLimits n → node_at (with_node n b) (node_count b) ≡ n
    unfolding node_at
    node-new h =
        let f = node-fields n h in
        let day = simp add-zero at (field-new 2 0 (omega arith)) in
        rw (
          day,
          field-new 4 4 (omega arith),
          field-new 4 8 (omega arith),
          field-new 4 12 (omega arith),
          field-new 4 16 (omega arith),
          f.day,
          f.rate,
          f.first,
          f.second,
          f.third,
        )

    gap-new : u16_at (with_node n b) (at + 2) ≡ 0
    gap-new = field-new 2 2 (omega arith) ∙ node-gap n

    pub curve-with-node : NodeLimits n → curve_of (with_node n b) ≡ lengthened_curve n (curve_of b)
    unfolding curve_of lengthened_curve
    curve-with-node h = rw (count-with-node, ← nodes)
      where
        entry : (i : ℕ) → i < 24 → Dec (i ≡ node_count b) → get_or (set (table (node_at b) 0 24) (node_count b) n) i zero_node ≡ node_at (with_node n b) i
        entry i l (yes e) = rw e (get_or-set_same (table (node_at b) 0 24) (node_count b) n zero_node (rw length-table room) ∙ sym (node-new h))
        entry i l (no e) =
            get_or-set_other (table (node_at b) 0 24) (node_count b) i n zero_node e ∙ place b i l ∙ sym (node_kept i l e)

        nodes : set (table (node_at b) 0 24) (node_count b) n ≡ table (node_at (with_node n b)) 0 24
        nodes =
            table-by (node_at (with_node n b)) zero_node 24 (set (table (node_at b) 0 24) (node_count b) n) (length-set (table (node_at b) 0 24) (node_count b) n ∙ length-table (node_at b) 0 24)
            (λ i l. entry i l (ℕ_discrete i (node_count b)))

-- ---- the verdict

-- node n may follow the last of curve block k
pub record Addable (b : List ℕ) (k : ℕ) (n : Node) : Type 0 where
  pub long : length b ≡ 512
  pub bytes : AreBytes b
  pub accepted : curve_verdict b k ≡ Ok tt
  pub room : node_count b < 24
  pub limits : NodeLimits n
  pub later : end_day (curve_of b) < n.day

module _ (b : List ℕ) (k : ℕ) (n : Node) (a : Addable b k n) where
  pub length-with-node : length (with_node n b) ≡ 512
  length-with-node = rw is-with-node (length-sealed (unsealed n b) ∙ length-unsealed n b ∙ a.long)

  pub bytes-with-node : AreBytes (with_node n b)
  bytes-with-node =
      rw is-with-node
      (bytes-sealed (unsealed n b)
      (bytes-set (written n b) 6 (node_count b + 1) (bytes-put b (at n b) (node_bytes n) a.bytes (bytes-node n)) (omega (arith, a.room))))

  has_room : (curve_of b).count < 24
  unfolding curve_of
  has_room = a.room

  curve : curve_of (with_node n b) ≡ lengthened_curve n (curve_of b)
  curve = curve-with-node n b a.long a.room a.limits

  pub nodes-with-node : nodes_of (curve_of (with_node n b)) ≡ nodes_of (curve_of b) ++ n ∷ []
  nodes-with-node = rw curve (nodes-lengthened n (curve_of b) (accepted-curve b k a.accepted).curve has_room)

  placed : breaks_place (with_node n b) 2 k ≡ false
  unfolding breaks_place
  placed = rw (first_byte n b 0 (omega arith), number-kept n b) (accepted-curve b k a.accepted).place

  sound-with-node : SoundCurve (with_node n b) k
  sound-with-node =
      let s = accepted-curve b k a.accepted in
      let currency = currency-with-node n b in
      record {
        check = rw is-with-node (sealed-sound (unsealed n b) (omega (arith, length-unsealed n b, a.long)));
        place = placed;
        id = first_byte n b 4 (omega arith) ∙ s.id;
        least = rw currency s.least;
        most = rw currency s.most;
        curve = rw curve (proper-lengthened n (curve_of b) s.curve has_room a.limits a.later);
        components = rw (components-with-node n b) s.components;
      }

  unnamed-with-node : Unnamed (with_node n b)
  unnamed-with-node =
      let u = accepted-unnamed b k a.accepted in
      let c = count-with-node n b a.long a.room in
      record {
        second = first_byte n b 1 (omega arith) ∙ u.second;
        steps = head-field n b 10 (omega arith) (omega arith) ∙ u.steps;
        ranges = head-field n b 18 (omega arith) (omega arith) ∙ u.ranges;
        gaps = λ i l. gap i (omega arith) (ℕ_discrete i (node_count b));
        behind = λ j l h. byte-kept n b j (inr (omega arith)) (inr (omega arith)) (omega arith) ∙ u.behind j (omega arith) h;
      }
    where
      gap : (i : ℕ) → i < node_count b + 1 → Dec (i ≡ node_count b) → u16_at (with_node n b) (node_place i + 2) ≡ 0
      gap i l (yes e) = rw e (gap-new n b a.long a.room)
      gap i l (no e) = node-field n b i (omega (arith, a.room)) e 2 2 (omega arith) ∙ (accepted-unnamed b k a.accepted).gaps i (omega arith)

  pub verdict-with-node : curve_verdict (with_node n b) k ≡ Ok tt
  verdict-with-node = curve-accepted (with_node n b) k sound-with-node unnamed-with-node
