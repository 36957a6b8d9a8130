-- The flows of a leg in a window of days are those of a leg again, with the right last amount.
use mathlib.Core.Path.{◌≡◌, refl, sym, ap, ◌∙◌}
use mathlib.Core.Bool.{Bool, true, false, cond}
use mathlib.Core.List.{[]}
use Prim.Native.Nat.{ℕ, ◌+◌, ◌-◌, ◌*◌, ◌/◌, ◌≤◌, ◌<◌, zero-le}
use native.Mathlib.Decide.{ℕ_discrete}
use native.Mathlib.Nat.{add-mul, div-mul-le_self, lt-div-mul-add, mul-le-mul_right, mul-zero}
use native.Mathlib.Omega.{arith}
use lib.Dec.{eqb, leb, ltb}
use borrow.Author.Tests.{eqb-true, eqb-false, eq-eqb, ne_eqb, ltb-true, ltb-false, lt-ltb, le-ltb, le-leb, lt-leb}
use Rattle.laws.specs.Select.{select}
use Rattle.laws.specs.Walk.{table}
use Rattle.laws.proofs.Select.{select-all, select-none, select-first, select-rest}
use Rattle.laws.proofs.Tables.{table_same}
use Rattle.discount.specs.declared.Flow.{Flow}
use Rattle.legs.specs.declared.Leg.{Leg}
use Rattle.legs.specs.Runs.{no_leg, flow_of, leg_flows}
use Rattle.legs.specs.Counted.{paid_by, rest_leg, start_leg, leg_after, leg_up_to, counted_leg}

-- ---- how many flows fall on days up to one

module _ (day : ℕ) (l : Leg) where
  abbrev periods : ℕ
  periods = (day - l.first) / l.period

  -- as the definition counts them
  abbrev paid : (single within : Bool) → ℕ
  paid single within = cond single l.count (cond within (periods + 1) l.count)

  pub paid-most : paid_by day l ≤ l.count
  unfolding paid_by
  paid-most = go (eqb l.period 0) (ltb periods l.count) refl
    where
      go : (a b : Bool) → ltb periods l.count ≡ b → paid a b ≤ l.count
      go true b g = omega arith
      go false true g = omega (arith, ltb-true periods l.count g)
      go false false g = omega arith

  module _ (h : l.first ≤ day) where
    -- those so counted do
    paid-day : (k : ℕ) → k < paid_by day l → l.first + k * l.period ≤ day
    unfolding paid_by
    paid-day k i = go (eqb l.period 0) refl (ltb periods l.count) refl i
      where
        counted : k ≤ periods → l.first + k * l.period ≤ day
        counted g = omega (arith, mul-le-mul_right {m = k} {n = periods} l.period g, div-mul-le_self (day - l.first) l.period)

        go : (a : Bool) → eqb l.period 0 ≡ a → (b : Bool) → ltb periods l.count ≡ b → k < paid a b → l.first + k * l.period ≤ day
        go true e b g m = rw (eqb-true l.period 0 e, mul-zero k) (omega arith)
        go false e true g m = counted (omega arith)
        go false e false g m = counted (omega (arith, ltb-false periods l.count g))

    -- and the others do not
    unpaid-day : (k : ℕ) → paid_by day l ≤ k → k < l.count → day < l.first + k * l.period
    unfolding paid_by
    unpaid-day k i = go (eqb l.period 0) refl (ltb periods l.count) i
      where
        go : (a : Bool) → eqb l.period 0 ≡ a → (b : Bool) → paid a b ≤ k → k < l.count → day < l.first + k * l.period
        go true e b m n = absurd (omega arith)
        go false e true m n =
            let some : 0 < l.period = omega (arith, eqb-false l.period 0 e) in
            omega (arith, mul-le-mul_right {m = periods + 1} {n = k} l.period m, lt-div-mul-add {a = day - l.first} some, add-mul periods 1 l.period)
        go false e false m n = absurd (omega arith)

-- ---- the flows behind the first, and the first

empty-leg : leg_flows no_leg ≡ []
unfolding leg_flows table
empty-leg = refl

rest-flow : (l : Leg) (paid n : ℕ) → paid + n ≡ l.count → (k : ℕ) → k < n → flow_of (rest_leg paid l) k ≡ flow_of l (paid + k)
rest-flow l paid n e k h =
    let day : l.first + paid * l.period + k * l.period ≡ l.first + (paid + k) * l.period = omega (arith, add-mul paid k l.period) in
    rw (day, last (ℕ_discrete (k + 1) n))
  where
    last : Dec (k + 1 ≡ n) → eqb (k + 1) (l.count - paid) ≡ eqb (paid + k + 1) l.count
    last (yes g) = eq-eqb (k + 1) (l.count - paid) (omega arith) ∙ sym (eq-eqb (paid + k + 1) l.count (omega arith))
    last (no g) = ne_eqb (k + 1) (l.count - paid) (λ x. omega arith) ∙ sym (ne_eqb (paid + k + 1) l.count (λ x. omega arith))

start-flow : (l : Leg) (paid : ℕ) → paid ≤ l.count → (k : ℕ) → k < paid → flow_of (start_leg paid l) k ≡ flow_of l k
start-flow l paid e k h = rw (amount (ℕ_discrete (k + 1) paid) (ℕ_discrete paid l.count))
  where
    amount : Dec (k + 1 ≡ paid) → Dec (paid ≡ l.count)
        → cond (eqb (k + 1) paid) (cond (eqb paid l.count) l.last l.each) l.each ≡ cond (eqb (k + 1) l.count) l.last l.each
    amount (yes f) (yes g) = rw (eq-eqb (k + 1) paid f, eq-eqb paid l.count g, eq-eqb (k + 1) l.count (omega arith))
    amount (yes f) (no g) = rw (eq-eqb (k + 1) paid f, ne_eqb paid l.count g, ne_eqb (k + 1) l.count (λ x. omega arith))
    amount (no f) t = rw (ne_eqb (k + 1) paid f, ne_eqb (k + 1) l.count (λ x. omega arith))

-- ---- the flows of a leg after a day, and up to one

module _ (day : ℕ) (l : Leg) where
  -- so many are paid by the day, and so many not
  abbrev p : ℕ
  p = paid_by day l

  abbrev n : ℕ
  n = l.count - p

  all : p + n ≡ l.count
  all = omega (arith, paid-most day l)

  abbrev later : Flow → Bool
  later f = ltb day f.day

  abbrev earlier : Flow → Bool
  earlier f = leb f.day day

  -- where the first comes later, so do all
  all-later : day < l.first → select later (leg_flows l) ≡ leg_flows l
  unfolding leg_flows
  all-later h = select-all later (flow_of l) 0 l.count (λ k a b. lt-ltb day _ (omega arith))

  none-earlier : day < l.first → select earlier (leg_flows l) ≡ []
  unfolding leg_flows
  none-earlier h = select-none earlier (flow_of l) 0 l.count (λ k a b. lt-leb _ day (omega arith))

  module _ (h : l.first ≤ day) where
    rest : select later (table (flow_of l) 0 (p + n)) ≡ table (flow_of l) (0 + p) n
    rest = select-rest later (flow_of l) p n (λ k g. le-ltb day _ (paid-day day l h k g)) (λ k a b. lt-ltb day _ (unpaid-day day l h k a (omega (arith, all))))

    start : select earlier (table (flow_of l) 0 (p + n)) ≡ table (flow_of l) 0 p
    start = select-first earlier (flow_of l) p n (λ k g. le-leb _ day (paid-day day l h k g)) (λ k a b. lt-leb _ day (unpaid-day day l h k a (omega (arith, all))))

    later-rest : leg_flows (cond (ltb p l.count) (rest_leg p l) no_leg) ≡ select later (leg_flows l)
    unfolding leg_flows table
    later-rest = go (ltb p l.count) refl ∙ sym rest ∙ ap (λ (m : ℕ). select later (table (flow_of l) 0 m)) all
      where
        go : (t : Bool) → ltb p l.count ≡ t → table (flow_of (cond t (rest_leg p l) no_leg)) 0 (cond t (rest_leg p l) no_leg).count ≡ table (flow_of l) (0 + p) n
        go true g = table_same (flow_of (rest_leg p l)) (flow_of l) 0 (0 + p) n (λ k b. rest-flow l p n all (0 + k) (omega arith) ∙ ap (flow_of l) (omega arith))
        go false g = let z : n ≡ 0 = omega (arith, ltb-false p l.count g) in rw z

    earlier-start : leg_flows (start_leg p l) ≡ select earlier (leg_flows l)
    unfolding leg_flows
    earlier-start =
        table_same (flow_of (start_leg p l)) (flow_of l) 0 0 p (λ k b. start-flow l p (paid-most day l) (0 + k) (omega arith))
        ∙ sym start
        ∙ ap (λ (m : ℕ). select earlier (table (flow_of l) 0 m)) all

  pub after_flows : leg_flows (leg_after day l) ≡ select later (leg_flows l)
  unfolding leg_after
  after_flows = go (ltb day l.first) refl
    where
      go : (t : Bool) → ltb day l.first ≡ t → leg_flows (cond t l (cond (ltb p l.count) (rest_leg p l) no_leg)) ≡ select later (leg_flows l)
      go true e = sym (all-later (ltb-true day l.first e))
      go false e = later-rest (ltb-false day l.first e)

  pub up-to-flows : leg_flows (leg_up_to day l) ≡ select earlier (leg_flows l)
  unfolding leg_up_to
  up-to-flows = go (ltb day l.first) refl
    where
      go : (t : Bool) → ltb day l.first ≡ t → leg_flows (cond t no_leg (start_leg p l)) ≡ select earlier (leg_flows l)
      go true e = empty-leg ∙ sym (none-earlier (ltb-true day l.first e))
      go false e = earlier-start (ltb-false day l.first e)

-- ---- of flows that all come behind the window none is in it

pub after_none : (day : ℕ) → leg_after day no_leg ≡ no_leg
unfolding leg_after paid_by
after_none day = rw (le-ltb day 0 zero-le)

pub up-to-none : (day : ℕ) → leg_up_to day no_leg ≡ no_leg
unfolding leg_up_to paid_by
up-to-none day = rw (le-ltb day 0 zero-le)

up-to-earlier : (day : ℕ) (l : Leg) → day < l.first → leg_up_to day l ≡ no_leg
unfolding leg_up_to
up-to-earlier day l h = rw (lt-ltb day l.first h)

pub none-in-term : (valueday1 valueday2 : ℕ) (l : Leg) → valueday2 < l.first → counted_leg false valueday1 valueday2 l ≡ no_leg
unfolding leg_after
none-in-term valueday1 valueday2 l h = go (ltb valueday1 l.first) (ltb (paid_by valueday1 l) l.count)
  where
    go : (a b : Bool) → leg_up_to valueday2 (cond a l (cond b (rest_leg (paid_by valueday1 l) l) no_leg)) ≡ no_leg
    go true b = up-to-earlier valueday2 l h
    go false true = up-to-earlier valueday2 (rest_leg (paid_by valueday1 l) l) (omega arith)
    go false false = up-to-none valueday2
