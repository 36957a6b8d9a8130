-- The days up to a place of the list, valued one by one at a line's rates.
use mathlib.Core.Path.{◌≡◌, refl, sym, ◌∙◌}
use mathlib.Core.List.{List, ◌∷◌}
use Prim.Native.Nat.{ℕ, suc, ◌+◌, ◌-◌, ◌^◌, ◌≤◌, ◌<◌}
use native.Mathlib.Numerals.{add-one}
use native.Mathlib.Omega.{arith}
use lib.IntN.{ℤ, nat_abs, ◌+ℤ◌, +ℤ_assoc, +ℤ_idr}
use lib.ListN.{drop, get_or}
use lib.Seq.{drop-cons, get_or-take, get_or-drop}
use lib.Signed.{mag}
use Rattle.laws.proofs.Signed.{abs-add, read, read_is, back}
use Rattle.cheap.specs.Cheap.{whole}
use Rattle.cheap.proofs.Bound.{cheap-le}
use Rattle.netting.specs.Netting.{net_on, worth, net_value, net_size, cheap_on}
use Rattle.netting.proofs.Sizes.{worth-size}
use Rattle.estimate.specs.declared.lines.Line.{Line}
use Rattle.estimate.specs.declared.parts.Part.{Part}
use Rattle.estimate.specs.Lines.{rate_on, Drawn}
use Rattle.estimate.specs.Values.{between, along_to, most_size, Ready}

-- the days from one place to another, by place
pub between-at : (i j : ℕ) (days : List ℕ) (k : ℕ) → k < j - i → get_or (between i j days) k 0 ≡ get_or days (i + k) 0
between-at i j days k h = get_or-take (j - i) (drop i days) k 0 h ∙ get_or-drop i days k 0

-- a net amount at a cheap factor is worth no more than it is
pub cheap-worth : (rate : ℕ → ℕ) (d : ℕ) (x : ℤ) → nat_abs (worth (cheap_on rate d) x) ≤ nat_abs x
unfolding whole
cheap-worth rate d x = worth-size (cheap_on rate d) x (cheap-le (rate d) d)

part-is : (r : Part) (n : ℕ) (z : ℤ) → r.done ≡ n → r.value ≡ z → r ≡ record { done = n; value = z }
part-is r n z e f = rw (← e, ← f)

module _ (l : Line) (end : ℕ) (nets : List ℤ) (days : List ℕ) where
  abbrev line_value : ℕ → ℤ
  line_value i = net_value (cheap_on (rate_on l)) nets (between i end days)

  -- on the way from part p along the line, as far as part r
  pub record Going (p r : Part) : Type 0 where
    pub ready : Ready l end nets days r
    pub value : r.value +ℤ line_value r.done ≡ p.value +ℤ line_value p.done

  pub going-first : (p : Part) → Ready l end nets days p → Going p p
  going-first p h = record { ready = h; value = refl }

  module _ (p r : Part) (h : Going p r) where
    pub going_end : end ≤ r.done → r ≡ along_to l end nets days p
    unfolding net_value
    going_end k =
        let none : end - r.done ≡ 0 = omega arith in
        let e = rw none at h.value in
        part-is r _ _ (omega (arith, h.ready.from)) (sym (+ℤ_idr r.value) ∙ e)

    module _ (k : r.done < end) where
      abbrev day : ℕ
      day = get_or days r.done 0

      left : drop r.done days ≡ day ∷ drop (suc r.done) days
      left = drop-cons days r.done 0 (omega (arith, h.ready.most))

      next : between r.done end days ≡ day ∷ between (suc r.done) end days
      next = let e : end - r.done ≡ suc (end - suc r.done) = omega arith in rw (e, left)

      pub going-day : (day < 10951) × Drawn l day
      going-day = h.ready.each r.done (omega arith) k

      abbrev day_worth : ℤ
      day_worth = worth (cheap_on (rate_on l) day) (net_on nets day)

      abbrev further : Part
      further = record { done = r.done + 1; value = r.value +ℤ day_worth }

      size-next : nat_abs r.value + (nat_abs (net_on nets day) + net_size nets (drop (suc r.done) days)) ≤ most_size
      unfolding net_size
      size-next = rw left at h.ready.size

      pub amount-most : nat_abs (net_on nets day) ≤ most_size
      amount-most = omega (arith, size-next)

      size-kept : nat_abs (r.value +ℤ day_worth) + net_size nets (drop (suc r.done) days) ≤ most_size
      size-kept = omega (arith, size-next, abs-add r.value day_worth, cheap-worth (rate_on l) day (net_on nets day))

      -- what the day's amount is worth, read back from its bits
      pub worth-read : (z : ℤ) → z ≡ worth (cheap_on (rate_on l) day) (read (net_on nets day)) → mag (net_on nets day) < 2 ^ 63 → read z ≡ day_worth
      unfolding most_size
      worth-read z e m =
          rw (e, back (net_on nets day) m) (read_is day_worth (omega (arith, amount-most, cheap-worth (rate_on l) day (net_on nets day))))

      pub sum-size : nat_abs (r.value +ℤ day_worth) ≤ most_size
      sum-size = omega (arith, size-kept)

      pub going_next : Going p further
      unfolding net_value
      going_next =
          let e = rw next at h.value in
          rw add-one
          (record {
            ready = record { places = h.ready.places; from = k; most = h.ready.most; each = λ i m u. h.ready.each i (omega arith) u; size = size-kept };
            value = +ℤ_assoc r.value day_worth (line_value (suc r.done)) ∙ e;
          })
