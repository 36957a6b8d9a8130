-- The listed days valued line by line: what is valued and what is left are together the value at the curve's rates.
use mathlib.Core.Path.{◌≡◌, refl, sym, ◌∙◌, ap}
use mathlib.Core.List.{List, [], ◌∷◌}
use Prim.Native.Nat.{ℕ, zero, suc, ◌+◌, ◌-◌, ◌≤◌, ◌<◌}
use native.Mathlib.Omega.{arith}
use lib.IntN.{ℤ, pos, nat_abs, ◌+ℤ◌, +ℤ_assoc, +ℤ_idl, +ℤ_idr}
use lib.ListN.{length, take, drop, get_or, drop_of_length-le}
use lib.Seq.{get_or-drop, drop-drop}
use Rattle.laws.proofs.Signed.{abs-add}
use Rattle.cheap.specs.Cheap.{whole}
use Rattle.cheap.proofs.Bound.{cheap-le}
use Rattle.netting.specs.Netting.{net_on, worth, net_value, net_size, cheap_on}
use Rattle.netting.proofs.Sizes.{net-value-size}
use Rattle.estimate.specs.declared.lines.Line.{Line}
use Rattle.estimate.specs.declared.parts.Part.{Part}
use Rattle.estimate.specs.Lines.{rate_on, Drawn}
use Rattle.estimate.specs.Values.{between, along_to, most_size, Listed}

-- ---- the first n days of a list, and the others

split-size : (nets : List ℤ) (n : ℕ) (ds : List ℕ) → net_size nets (take n ds) + net_size nets (drop n ds) ≡ net_size nets ds
unfolding net_size
split-size nets zero ds = omega arith
split-size nets (suc n) [] = omega arith
split-size nets (suc n) (d ∷ ds) = let ih = split-size nets n ds in omega arith

-- the first at factors that are the same there
split-value : (c e : ℕ → ℕ) (nets : List ℤ) (n : ℕ) (ds : List ℕ) → ((i : ℕ) → i < n → c (get_or ds i 0) ≡ e (get_or ds i 0))
    → net_value c nets ds ≡ net_value e nets (take n ds) +ℤ net_value c nets (drop n ds)
unfolding net_value
split-value c e nets zero ds h = sym (+ℤ_idl (net_value c nets ds))
split-value c e nets (suc n) [] h = refl
split-value c e nets (suc n) (d ∷ ds) h =
    let ih = split-value c e nets n ds (λ i l. h (suc i) (omega arith)) in
    rw (h 0 (omega arith), ih)
    (sym (+ℤ_assoc (worth (e d) (net_on nets d)) (net_value e nets (take n ds)) (net_value c nets (drop n ds))))

pub cheap-size : (rate : ℕ → ℕ) (nets : List ℤ) (ds : List ℕ) → nat_abs (net_value (cheap_on rate) nets ds) ≤ net_size nets ds
unfolding whole
cheap-size rate nets ds = net-value-size (cheap_on rate) (λ d. cheap-le (rate d) d) nets ds

-- ---- a line has the rates of the days from one day to before another

pub record Follows (rate : ℕ → ℕ) (l : Line) (from until : ℕ) : Type 0 where
  pub drawn : (t : ℕ) → from ≤ t → t < until → Drawn l t
  pub rate-is : (t : ℕ) → from ≤ t → t < until → rate_on l t ≡ rate t

-- ---- part p, and what is left

module _ (rate : ℕ → ℕ) (nets : List ℤ) (days : List ℕ) where
  pub record Valuing (p : Part) : Type 0 where
    pub value : p.value +ℤ net_value (cheap_on rate) nets (drop p.done days) ≡ net_value (cheap_on rate) nets days
    pub size : nat_abs p.value + net_size nets (drop p.done days) ≤ most_size

  pub valuing-next : (p : Part) → Valuing p → (l : Line) (end : ℕ) → p.done ≤ end
      → ((i : ℕ) → p.done ≤ i → i < end → rate_on l (get_or days i 0) ≡ rate (get_or days i 0)) → Valuing (along_to l end nets days p)
  valuing-next p h l end k same =
      let n = end - p.done in
      let left = drop p.done days in
      let there = net_value (cheap_on (rate_on l)) nets (between p.done end days) in
      let rest : drop n left ≡ drop end days = let e : p.done + n ≡ end = omega arith in rw (drop-drop n p.done days, e) in
      let each : (i : ℕ) → i < n → cheap_on rate (get_or left i 0) ≡ cheap_on (rate_on l) (get_or left i 0) =
      λ i m. rw get_or-drop (ap (λ (x : ℕ). cheap_on (λ t. x) (get_or days (p.done + i) 0)) (sym (same (p.done + i) (omega arith) (omega arith)))) in
      let value = rw rest at (split-value (cheap_on rate) (cheap_on (rate_on l)) nets n left each) in
      let size = rw rest at (split-size nets n left) in
      record {
        value =
            +ℤ_assoc p.value there (net_value (cheap_on rate) nets (drop end days)) ∙ ap (λ (z : ℤ). p.value +ℤ z) (sym value) ∙ h.value;
        size = omega (arith, h.size, abs-add p.value there, cheap-size (rate_on l) nets (between p.done end days), size);
      }

  pub valuing-all : (p : Part) → Valuing p → length days ≤ p.done → p.value ≡ net_value (cheap_on rate) nets days
  unfolding net_value
  valuing-all p h k =
      let e = rw (drop_of_length-le days k) at h.value in
      sym (+ℤ_idr p.value) ∙ e

  pub valuing-none : Listed nets days → Valuing (record { done = 0; value = pos 0 })
  valuing-none s = record { value = +ℤ_idl (net_value (cheap_on rate) nets days); size = rw s.list (omega (arith, s.size)) }
