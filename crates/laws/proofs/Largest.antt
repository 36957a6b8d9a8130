-- `worst` over the numbers from 0 on, n of them: it is the first with the largest value, and the only one.
use mathlib.Core.Path.{◌≡◌, refl}
use mathlib.Core.Bool.{Bool, true, false, cond}
use mathlib.Core.List.{List, ◌∷◌, Memᴰ}
use Prim.Native.Nat.{ℕ, zero, suc, ◌+◌, ◌-◌, ◌≤◌, ◌<◌}
use native.Mathlib.Decide.{ℕ_discrete, dec_lt}
use native.Mathlib.Omega.{arith}
use lib.IntN.{ℤ}
use lib.Signed.{lt_z, ◌≤ℤ◌, ◌<ℤ◌, lt_z_yes, lt_z_no, ≤ℤ_refl}
use Rattle.laws.specs.Walk.{table}
use Rattle.laws.specs.Worst.{worst}
use Rattle.laws.proofs.Integer.{int, lt-show}

-- the numbers from i, n of them
abbrev pub up_from : ℕ → ℕ → List ℕ
up_from i n = table (λ s. s) i n

-- ---- the list has every number below n

in-up_from : (i n s : ℕ) → i ≤ s → s < i + n → Memᴰ s (up_from i n)
unfolding table
in-up_from i zero s h k = absurd (omega arith)
in-up_from i (suc n) s h k = go (ℕ_discrete s i) (λ m. in-up_from (suc i) n s m (omega arith))
  where
    go : Dec (s ≡ i) → (suc i ≤ s → Memᴰ s (up_from (suc i) n)) → Memᴰ s (i ∷ up_from (suc i) n)
    go (yes e) r = Memᴰ.head e
    go (no e) r = Memᴰ.tail (r (omega arith))

pub numbered : (n s : ℕ) → s < n → Memᴰ s (0 ∷ up_from 1 (n - 1))
numbered n zero h = Memᴰ.head refl
numbered n (suc s) h = Memᴰ.tail (in-up_from 1 (n - 1) (suc s) (omega arith) (omega arith))

-- ---- what it is: of the numbers below i, none has a larger value than at, and none before at has as large a one

pub record Leads (l : ℕ → ℤ) (at i : ℕ) : Type 0 where
  pub within : at < i
  pub most : (s : ℕ) → s < i → l s ≤ℤ l at
  pub first : (s : ℕ) → s < at → l s <ℤ l at

module _ (l : ℕ → ℤ) where
  leads-next : (at i : ℕ) → Leads l at i → Leads l (cond (lt_z (l at) (l i)) i at) (suc i)
  leads-next at i h = go (lt_z (l at) (l i)) refl
    where
      go : (t : Bool) → lt_z (l at) (l i) ≡ t → Leads l (cond t i at) (suc i)
      go true e =
          let less : l at <ℤ l i = lt_z_yes (rw e tt) in
          record {
            within = omega arith;
            most = λ s m. by_last s m (ℕ_discrete s i) less;
            first = λ s m. lt-show (l s) (l i) (omega (int, h.most s m, less));
          }
        where
          by_last : (s : ℕ) → s < suc i → Dec (s ≡ i) → l at <ℤ l i → l s ≤ℤ l i
          by_last s m (yes p) less = rw p (≤ℤ_refl (l i))
          by_last s m (no p) less = omega (int, less, h.most s (omega arith))
      go false e =
          let less : l i ≤ℤ l at = lt_z_no (rw e tt) in
          record { within = omega (arith, h.within); most = λ s m. by_last s m (ℕ_discrete s i) less; first = h.first }
        where
          by_last : (s : ℕ) → s < suc i → Dec (s ≡ i) → l i ≤ℤ l at → l s ≤ℤ l at
          by_last s m (yes p) less = rw p less
          by_last s m (no p) less = h.most s (omega arith)

  leads-all : (at i n : ℕ) → Leads l at i → Leads l (worst l at (up_from i n)) (i + n)
  unfolding worst table
  leads-all at i zero h = let e : i + 0 ≡ i = omega arith in rw e h
  leads-all at i (suc n) h =
      let e : i + suc n ≡ suc i + n = omega arith in
      rw e (leads-all (cond (lt_z (l at) (l i)) i at) (suc i) n (leads-next at i h))

  pub worst-leads : (n : ℕ) → 0 < n → Leads l (worst l 0 (up_from 1 (n - 1))) n
  worst-leads n h =
      let e : 1 + (n - 1) ≡ n = omega arith in
      rw e at (leads-all 0 1 (n - 1) start)
    where
      only : (s : ℕ) → s < 1 → l s ≤ℤ l 0
      only s m = let p : s ≡ 0 = omega arith in rw p (≤ℤ_refl (l 0))

      start : Leads l 0 1
      start = record { within = omega arith; most = only; first = λ s m. absurd (omega arith) }

  -- there is only one
  leads-same : (n a b : ℕ) → Leads l a n → Leads l b n → a ≡ b
  leads-same n a b h k = go (dec_lt a b) (dec_lt b a)
    where
      go : Dec (a < b) → Dec (b < a) → a ≡ b
      go (yes p) q = absurd (omega (int, k.first a p, h.most b k.within))
      go (no p) (yes q) = absurd (omega (int, h.first b q, k.most a h.within))
      go (no p) (no q) = omega arith

  pub leads-worst : (n at : ℕ) → Leads l at n → worst l 0 (up_from 1 (n - 1)) ≡ at
  leads-worst n at h = leads-same n _ at (worst-leads n (omega (arith, h.within))) h
