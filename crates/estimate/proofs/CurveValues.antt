-- The listed days valued along a curve's lines, from node to node.
use mathlib.Core.Path.{◌≡◌, refl, ◌∙◌, ap}
use mathlib.Core.Bool.{Bool, true, false}
use mathlib.Core.List.{List}
use Prim.Native.Nat.{ℕ, ◌+◌, ◌-◌, ◌^◌, ◌≤◌, ◌<◌}
use native.Mathlib.Omega.{arith}
use borrow.Author.Tests.{leb-true, leb-false}
use lib.Dec.{leb}
use lib.IntN.{ℤ, pos, nat_abs}
use lib.ListN.{length, get_or}
use Rattle.laws.proofs.Signed.{read, read_is}
use Rattle.curve.specs.declared.Node.{Node}
use Rattle.curve.specs.declared.Curve.{Curve}
use Rattle.curve.specs.Rates.{nodes_of, rate_at}
use Rattle.curve.specs.Limits.{ProperCurve}
use Rattle.netting.specs.Netting.{listed, net_value, cheap_on}
use Rattle.estimate.specs.declared.lines.Line.{Line}
use Rattle.estimate.specs.declared.parts.Part.{Part}
use Rattle.estimate.specs.Lines.{level, line_of}
use Rattle.estimate.specs.Values.{cheap_value, along_to, DaysBefore, Ends, most_size, Listed, Ready}
use Rattle.estimate.proofs.ListedDays.{below-listed}
use Rattle.estimate.proofs.Valuing.{cheap-size, Follows, Valuing, valuing-next, valuing-all, valuing-none}
use Rattle.estimate.proofs.CurveLines.{node, rates, ahead, follows-first, follows-between, follows-last}

-- part p has the days before the node in front of place i
pub record Held (c : Curve) (nets : List ℤ) (days ends : List ℕ) (i : ℕ) (p : Part) : Type 0 where
  pub some : 0 < i
  pub most : i ≤ c.count
  pub done : p.done ≡ get_or ends (i - 1) 0
  pub valuing : Valuing (rate_at (nodes_of c)) nets days p

abbrev none : Part
none = record { done = 0; value = pos 0 }

-- as many days come before a day as before an earlier one, or more
before_more : (a b : ℕ) (days : List ℕ) (m n : ℕ) → a ≤ b → DaysBefore a days m → DaysBefore b days n → m ≤ n
before_more a b days m n k h l = go (leb m n) refl
  where
    go : (t : Bool) → leb m n ≡ t → m ≤ n
    go true q = leb-true m n q
    go false q =
        let o = leb-false m n q in
        absurd (omega (arith, h.before n o, l.after n (omega arith) (omega (arith, h.most))))

module _ (c : Curve) (proper : ProperCurve c) (nets : List ℤ) (days ends : List ℕ) (s : Listed nets days) (e : Ends c days ends) where
  -- a part goes on along a line that follows the curve on the days that come
  module _ (p : Part) (v : Valuing (rates c proper) nets days p) (l : Line) (end from until : ℕ) (f : Follows (rates c proper) l from until) (k : p.done ≤ end) (m : end ≤ length days) (within : (i : ℕ) → p.done ≤ i → i < end → (from ≤ get_or days i 0) × (get_or days i 0 < until)) where
    ready : Ready l end nets days p
    ready =
        record {
          places = s.places;
          from = k;
          most = m;
          each = λ i a b. (below-listed nets days s i (omega arith), f.drawn _ (within i a b).0 (within i a b).1);
          size = v.size;
        }

    further : Valuing (rates c proper) nets days (along_to l end nets days p)
    further = valuing-next _ _ _ p v l end k (λ i a b. f.rate-is _ (within i a b).0 (within i a b).1)

  -- to the first node
  module _ (l : Line) (q : l ≡ level (node c 0).rate) where
    first : DaysBefore (node c 0).day days (get_or ends 0 0)
    first = e.each 0 (omega (arith, proper.least))

    start : Valuing (rates c proper) nets days none
    start = valuing-none (rates c proper) nets days s

    first-follows : Follows (rates c proper) l 0 (node c 0).day
    first-follows = rw q (follows-first c proper)

    pub ready-first : Ready l (get_or ends 0 0) nets days none
    ready-first =
        ready none start l _ _ _ first-follows (omega arith) first.most (λ i a b. (omega arith, first.before i b))

    pub held_first : (r : Part) → r ≡ along_to l (get_or ends 0 0) nets days none → Held c nets days ends 1 r
    held_first r w =
        let v = further none start l _ _ _ first-follows (omega arith) first.most (λ i a b. (omega arith, first.before i b)) in
        rw w (record { some = omega arith; most = omega (arith, proper.least); done = refl; valuing = v })

  module _ (i : ℕ) (p : Part) (h : Held c nets days ends i p) where
    last : DaysBefore (node c (i - 1)).day days (get_or ends (i - 1) 0)
    last = e.each (i - 1) (omega (arith, h.some, h.most))

    from : (j : ℕ) → p.done ≤ j → j < length days → (node c (i - 1)).day ≤ get_or days j 0
    from j a b = last.after j (omega (arith, h.done)) b

    -- to the next
    module _ (k : i < c.count) where
      next : DaysBefore (node c i).day days (get_or ends i 0)
      next = e.each i k

      order : p.done ≤ get_or ends i 0
      order = omega (arith, h.done, before_more _ _ _ _ _ (omega (arith, (ahead c proper i h.some k).rising)) last next)

      within : (j : ℕ) → p.done ≤ j → j < get_or ends i 0 → ((node c (i - 1)).day ≤ get_or days j 0) × (get_or days j 0 < (node c i).day)
      within j a b = (from j a (omega (arith, next.most)), next.before j b)

      pub ready-next : Ready (line_of (node c (i - 1)) (node c i)) (get_or ends i 0) nets days p
      ready-next = ready p h.valuing _ _ _ _ (follows-between c proper i h.some k) order next.most within

      pub held_next : (r : Part) → r ≡ along_to (line_of (node c (i - 1)) (node c i)) (get_or ends i 0) nets days p → Held c nets days ends (i + 1) r
      held_next r w =
          let v = further p h.valuing _ _ _ _ (follows-between c proper i h.some k) order next.most within in
          let here : i + 1 - 1 ≡ i = omega arith in
          rw w (record { some = omega arith; most = omega arith; done = rw here; valuing = v })

  -- from the last node on
  module _ (p : Part) (h : Held c nets days ends c.count p) (l : Line) (q : l ≡ level (node c (c.count - 1)).rate) where
    last-follows : Follows (rates c proper) l (node c (c.count - 1)).day 10951
    last-follows = rw q (follows-last c proper c.count h.some refl)

    rest : (j : ℕ) → p.done ≤ j → j < length days → ((node c (c.count - 1)).day ≤ get_or days j 0) × (get_or days j 0 < 10951)
    rest j a b = (from c.count p h j a b, below-listed nets days s j b)

    most : p.done ≤ length days
    most = omega (arith, h.done, (last c.count p h).most)

    pub ready-last : Ready l (length days) nets days p
    ready-last = ready p h.valuing l _ _ _ last-follows most (omega arith) rest

    pub held_all : (r : Part) → r ≡ along_to l (length days) nets days p → r.value ≡ cheap_value (nodes_of c) nets
    held_all r w =
        let v = further p h.valuing l _ _ _ last-follows most (omega arith) rest in
        rw w (valuing-all _ _ _ _ v (omega arith) ∙ ap (λ (ds : List ℕ). net_value (cheap_on (rate_at (nodes_of c))) nets ds) s.list)

-- ---- the value at any nodes fits, and is read back from its bits

module _ (nodes : List Node) (nets : List ℤ) (days : List ℕ) (s : Listed nets days) where
  value-size : nat_abs (cheap_value nodes nets) < 2 ^ 63
  unfolding most_size
  value-size = omega (arith, cheap-size (rate_at nodes) nets (listed nets), s.size)

  pub value_read : (z : ℤ) → z ≡ cheap_value nodes nets → read z ≡ cheap_value nodes nets
  value_read z e = rw e (read_is _ value-size)
