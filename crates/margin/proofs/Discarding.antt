-- Scenarios that their estimates rule out can be passed over: the first largest loss over the rest is that over all.
use mathlib.Core.Path.{◌≡◌, refl, ap}
use mathlib.Core.Bool.{Bool, true, false, cond, ◌&&◌}
use mathlib.Core.List.{List, map}
use Prim.Native.Nat.{ℕ, zero, suc, ◌+◌, ◌-◌, ◌≤◌, ◌<◌}
use borrow.Author.Count.{below_more}
use native.Mathlib.Omega.{arith}
use lib.Dec.{eqb}
use lib.IntN.{ℤ, pos, neg_ℤ, ◌-ℤ◌}
use lib.ListN.{length, get_or, take, drop}
use lib.Seq.{get_or-take, length-take-le, drop-cons}
use Rattle.std.specs.List.{HoldsAt, AllWithin, list_all, zip}
use Rattle.laws.specs.Walk.{over}
use Rattle.laws.specs.Every.{every}
use borrow.Author.Tests.{eqb-true}
use lib.Signed.{lt_z, ◌≤ℤ◌, ◌<ℤ◌, lt_z_yes, lt_z_no, ≤ℤ_refl}
use Rattle.laws.specs.Distance.{Below}
use Rattle.laws.specs.Worst.{worst}
use Rattle.laws.proofs.Integer.{int, lt-show, plus, up_pos, down_pos, up_neg, down-neg}
use Rattle.laws.proofs.Largest.{up_from, Leads, leads-worst}
use Rattle.laws.proofs.Every.{every-at}
use Rattle.laws.proofs.Lists.{map_same, map_first-done}
use Rattle.curve.specs.declared.Node.{Node}
use Rattle.curve.specs.declared.Curve.{Curve}
use Rattle.curve.specs.declared.Scenario.{Scenario}
use Rattle.curve.specs.Rates.{nodes_of}
use Rattle.curve.specs.Limits.{ProperCurve, zero_node}
use Rattle.curve.specs.Stress.{stressed, stressed_curve}
use Rattle.curve.proofs.Rates.{length-nodes}
use Rattle.margin.specs.declared.losses.Loss.{Loss}
use Rattle.margin.specs.Worst.{worse_of}
use Rattle.screening.specs.Screening.{Least}
use Rattle.margin.specs.Choice.{slack_of, limit_of, Kept, FirstKept, WorstKept, same_rates}

-- ---- discarding

pub not-above : (least : ℤ) (deviation : ℕ) → least ≤ℤ limit_of least deviation
not-above least deviation = omega (int, plus least (pos (slack_of deviation)), up_pos (slack_of deviation), down_pos (slack_of deviation))

-- both estimates may be off by the deviation
both-off : (deviation : ℕ) → deviation + deviation ≤ slack_of deviation
unfolding slack_of
both-off deviation = omega arith

module _ (base : ℤ) (value : ℕ → ℤ) (estimates : List ℤ) (deviation n : ℕ) (below : (s : ℕ) → s < n → Below (get_or estimates s (pos 0)) (value s) deviation) (m : ℕ) (least : Least estimates n m) (q : ℕ) (within : q < n) (near : Below (value q) (get_or estimates m (pos 0)) deviation) where
  abbrev loss : ℕ → ℤ
  loss s = base -ℤ value s

  abbrev limit : ℤ
  limit = limit_of (get_or estimates m (pos 0)) deviation

  -- a scenario above the limit loses less than the one whose value is at most the least estimate
  pub loses-less : (s : ℕ) → s < n → limit <ℤ get_or estimates s (pos 0) → loss s <ℤ loss q
  loses-less s h k =
      lt-show (loss s) (loss q)
      (omega (
        int,
        below s h,
        near,
        both-off deviation,
        plus (get_or estimates m (pos 0)) (pos (slack_of deviation)),
        up_pos (slack_of deviation),
        down_pos (slack_of deviation),
        plus base (neg_ℤ (value s)),
        plus base (neg_ℤ (value q)),
        up_neg (value s),
        down-neg (value s),
        up_neg (value q),
        down-neg (value q),
      ))

  least_kept : Kept estimates limit q
  least_kept =
      omega
      (int, below q within, near, both-off deviation, plus (get_or estimates m (pos 0)) (pos (slack_of deviation)), up_pos (slack_of deviation), down_pos (slack_of deviation))

  -- so the first largest loss over those that are kept is the first largest over all
  pub kept-leads : (w : Loss) → WorstKept loss estimates limit n w → Leads loss w.scenario n
  kept-leads w h =
      record { within = h.within; most = λ s k. most s k (lt_z limit (get_or estimates s (pos 0))) refl; first = λ s k. first s k (lt_z limit (get_or estimates s (pos 0))) refl }
    where
      most : (s : ℕ) → s < n → (t : Bool) → lt_z limit (get_or estimates s (pos 0)) ≡ t → loss s ≤ℤ loss w.scenario
      most s k true e =
          let gone : limit <ℤ get_or estimates s (pos 0) = lt_z_yes (rw e tt) in
          let le : loss s ≤ℤ w.amount = omega (int, loses-less s k gone, h.most q within least_kept) in
          rw h.amount at le
      most s k false e = rw h.amount at (h.most s k (lt_z_no (rw e tt)))

      first : (s : ℕ) → s < w.scenario → (t : Bool) → lt_z limit (get_or estimates s (pos 0)) ≡ t → loss s <ℤ loss w.scenario
      first s k true e =
          let gone : limit <ℤ get_or estimates s (pos 0) = lt_z_yes (rw e tt) in
          let less : loss s <ℤ loss q = loses-less s (omega (arith, h.within)) gone in
          let top : loss q ≤ℤ loss w.scenario = rw h.amount at (h.most q within least_kept) in
          lt-show (loss s) (loss w.scenario) (omega (int, less, top))
      first s k false e = rw h.amount at (h.first s k (lt_z_no (rw e tt)))

  -- and it is the worst loss
  pub kept-worst : (w : Loss) → WorstKept loss estimates limit n w
      → w ≡ record { amount = loss (worst loss 0 (up_from 1 (n - 1))); scenario = worst loss 0 (up_from 1 (n - 1)) }
  kept-worst w h = rw (leads-worst loss n w.scenario (kept-leads w h)) (ap (λ (z : ℤ). record { amount = z; scenario = w.scenario }) h.amount)

-- ---- the first that is kept, as a search finds it

pub first-kept : (values : List ℤ) (limit : ℤ) (n : ℕ) → n ≤ length values → (k : ℕ)
    → (k < length (take n values)) × HoldsAt (λ (v : ℤ). v ≤ℤ limit) (take n values) k × AllWithin (λ (v : ℤ). limit <ℤ v) (take n values) 0 k → FirstKept values limit k × (k < n)
first-kept values limit n h k first =
    let l : k < n = omega (arith, length-take-le n values h) in
    (record { kept = rw (get_or-take n values k (pos 0) l) at (first.1 (pos 0)); none = λ s m. rw (get_or-take n values s (pos 0) (omega arith)) at (first.2 s (pos 0) (omega arith) m) }, l)

-- ---- the loop: the worst of the scenarios kept so far

module _ (loss : ℕ → ℤ) (values : List ℤ) (limit : ℤ) where
  pub kept-first : (k : ℕ) → FirstKept values limit k → (w : Loss) → w ≡ record { amount = loss k; scenario = k } → WorstKept loss values limit (k + 1) w
  kept-first k h w e =
      rw e
      (record { within = omega arith; amount = refl; most = below_more _ k (λ s m c. absurd (omega (int, h.none s m))) (λ c. ≤ℤ_refl (loss k)); first = λ s m c. absurd (omega (int, h.none s m)) })

  module _ (w : Loss) (s : ℕ) (h : WorstKept loss values limit s w) where
    -- one that is passed over
    pub kept_same : limit <ℤ get_or values s (pos 0) → WorstKept loss values limit (s + 1) w
    kept_same k =
        record { within = omega (arith, h.within); amount = h.amount; most = below_more _ s h.most (λ c. absurd (omega int)); first = h.first }

    -- one that is looked at
    pub kept_next : (b : Loss) → b ≡ record { amount = loss s; scenario = s } → WorstKept loss values limit (s + 1) (worse_of w b)
    unfolding worse_of
    kept_next b e = rw e (go (lt_z w.amount (loss s)) refl)
      where
        go : (t : Bool) → lt_z w.amount (loss s) ≡ t → WorstKept loss values limit (s + 1) (cond t (record { amount = loss s; scenario = s }) w)
        go true q =
            let more : w.amount <ℤ loss s = lt_z_yes (rw q tt) in
            record {
              within = omega arith;
              amount = refl;
              most = below_more _ s (λ k m c. omega (int, more, h.most k m c)) (λ c. ≤ℤ_refl (loss s));
              first = λ k m c. lt-show (loss k) (loss s) (omega (int, more, h.most k m c));
            }
        go false q =
            let less : loss s ≤ℤ w.amount = lt_z_no (rw q tt) in
            record { within = omega (arith, h.within); amount = h.amount; most = below_more _ s h.most (λ c. less); first = h.first }

-- ---- two scenarios that give the nodes the same rates

pairs-every : (a b : List Node) (i n : ℕ) → i + n ≤ length a → i + n ≤ length b
    → list_all (λ (p : Node × Node). eqb p.0.rate p.1.rate) (zip (take n (drop i a)) (take n (drop i b))) ≡ every (λ k. eqb (get_or a k zero_node).rate (get_or b k zero_node).rate) i n
unfolding every over
pairs-every a b i zero h k = refl
pairs-every a b i (suc n) h k =
    let m : i < length a = omega arith in
    let l : i < length b = omega arith in
    rw (drop-cons a i zero_node, drop-cons b i zero_node)
    (ap (λ (rest : Bool). eqb (get_or a i zero_node).rate (get_or b i zero_node).rate && rest) (pairs-every a b (suc i) n (omega arith) (omega arith)))

pub same-rates : (a b : Curve) → a.count ≤ length a.nodes → a.count ≤ length b.nodes
    → list_all (λ (p : Node × Node). eqb p.0.rate p.1.rate) (zip (take a.count a.nodes) (take a.count b.nodes)) ≡ same_rates a b
unfolding same_rates
same-rates a b h k = pairs-every a.nodes b.nodes 0 a.count (omega arith) (omega arith)

same-node : (a b : Scenario) (n : Node) → (stressed a n).rate ≡ (stressed b n).rate → stressed a n ≡ stressed b n
same-node a b n e = ap (λ r. record { day = n.day; rate = r; first = n.first; second = n.second; third = n.third }) e

module _ (a b : Scenario) (c : Curve) (p : ProperCurve c) where
  pub same-stressed : same_rates (stressed_curve a c) (stressed_curve b c) ≡ true → map (stressed a) (nodes_of c) ≡ map (stressed b) (nodes_of c)
  unfolding same_rates stressed_curve
  same-stressed h =
      map_same (stressed a) (stressed b) (nodes_of c) zero_node
      (λ k m.
      let short : k < c.count = omega (arith, length-nodes c p) in
      let long : k < length c.nodes = omega (arith, p.places, p.most) in
      let same = eqb-true (get_or (stressed_curve a c).nodes k zero_node).rate (get_or (stressed_curve b c).nodes k zero_node).rate (every-at (λ i. eqb (get_or (stressed_curve a c).nodes i zero_node).rate (get_or (stressed_curve b c).nodes i zero_node).rate) 0 c.count h k (omega arith) (omega arith)) in
      rw (get_or-take c.count c.nodes k zero_node short) (same-node a b (get_or c.nodes k zero_node) (rw (map_first-done (stressed a) c.count c.nodes k zero_node short long, map_first-done (stressed b) c.count c.nodes k zero_node short long) at same)))
