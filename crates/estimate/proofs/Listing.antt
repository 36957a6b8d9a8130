-- The list of the days that have a net amount, made day by day.
use mathlib.Core.Path.{◌≡◌, refl, sym, ◌∙◌, ap}
use mathlib.Core.Bool.{Bool, true, false, not}
use mathlib.Core.List.{List, ◌++◌, append_assoc, append-nil}
use Prim.Native.Nat.{ℕ, suc, ◌+◌, ◌^◌, ◌≤◌, ◌<◌}
use native.Mathlib.Numerals.{add-one}
use native.Mathlib.Omega.{arith}
use lib.Dec.{eqb}
use lib.IntN.{ℤ, pos, negsuc, nat_abs}
use lib.ListN.{length, take, drop, get_or, set, length-set, drop_of_length-le}
use lib.Signed.{mag}
use mir.Syntax.{w64}
use mir.Val.{to_z, of_z, bool_byte}
use borrow.Author.Tests.{eq-eqb, ne_eqb, eqb-true, eqb-false}
use lib.Seq.{drop-cons, take-suc-set, take-set-le}
use Rattle.laws.proofs.Signed.{back}
use Rattle.netting.specs.Netting.{listed_from, listed, net_on}

-- ---- the code's test of an amount, on its bits

none-tested : (z : ℤ) → mag z < 2 ^ 63 → of_z w64 z ≡ 0 → nat_abs z ≡ 0
none-tested z h e = ap nat_abs (sym (back z h) ∙ ap (to_z w64) e)

some-tested : (z : ℤ) → (of_z w64 z ≡ 0 → ⊥) → eqb (nat_abs z) 0 ≡ false
some-tested (pos n) h = ne_eqb n 0 h
some-tested (negsuc n) h = ne_eqb (suc n) 0 (λ e. absurd (omega arith))

-- ---- of the days before `day`, count are listed

pub record Listing (nets : List ℤ) (days₀ days : List ℕ) (count day : ℕ) : Type 0 where
  pub most : count ≤ day
  pub within : day ≤ length nets
  pub places : length days ≡ length days₀
  pub list : listed nets ≡ take count days ++ listed_from day (drop day nets)

module _ (nets : List ℤ) (days₀ : List ℕ) where
  module _ (days : List ℕ) (count day : ℕ) (h : Listing nets days₀ days count day) where
    module _ (k : day < length nets) (l : length nets ≤ length days₀) where
      -- a day with an amount is listed
      listing-more : eqb (nat_abs (get_or nets day (pos 0))) 0 ≡ false → Listing nets days₀ (set days count day) (count + 1) (day + 1)
      unfolding listed_from
      listing-more e =
          record {
            most = omega (arith, h.most);
            within = omega arith;
            places = length-set days count day ∙ h.places;
            list =
                h.list
                ∙ rw (drop-cons nets day (pos 0) k, e, add-one, add-one, take-suc-set days count day (omega (arith, h.most, h.places)), append_assoc);
          }

      -- and one without is written over
      listing-kept : nat_abs (get_or nets day (pos 0)) ≡ 0 → Listing nets days₀ (set days count day) count (day + 1)
      unfolding listed_from
      listing-kept z =
          let e = eq-eqb _ 0 z in
          record {
            most = omega (arith, h.most);
            within = omega arith;
            places = length-set days count day ∙ h.places;
            list = h.list ∙ rw (drop-cons nets day (pos 0) k, e, add-one, take-set-le count days count day (omega arith));
          }

      -- the code writes every day, and counts those with an amount
      pub listing-next : mag (net_on nets day) < 2 ^ 63 → (n : ℕ) → n ≡ bool_byte (not (eqb (of_z w64 (net_on nets day)) 0))
          → Listing nets days₀ (set days count day) (count + n) (day + 1)
      listing-next m n e = go (eqb (of_z w64 (net_on nets day)) 0) refl e
        where
          go : (t : Bool) → eqb (of_z w64 (net_on nets day)) 0 ≡ t → n ≡ bool_byte (not t)
              → Listing nets days₀ (set days count day) (count + n) (day + 1)
          go true q e =
              let z : count + n ≡ count = omega arith in
              rw z (listing-kept (none-tested (net_on nets day) m (eqb-true _ _ q)))
          go false q e = rw e (listing-more (some-tested (net_on nets day) (eqb-false _ _ q)))

    pub listing-all : length nets ≤ day → take count days ≡ listed nets
    unfolding listed_from
    listing-all k = sym (h.list ∙ rw (drop_of_length-le nets k) (append-nil (take count days)))
