-- Records of one length, one behind the other: written one by one, and read back.
use mathlib.Core.Path.{◌≡◌, refl, sym, ◌∙◌, ap}
use mathlib.Core.List.{List, [], ◌∷◌, ◌++◌, flat_map}
use Prim.Native.Nat.{ℕ, zero, suc, ◌+◌, ◌*◌, ◌≤◌, ◌<◌}
use native.Mathlib.Numerals.{add-one}
use native.Mathlib.Omega.{arith}
use lib.ListN.{length, get_or, drop, replicate, length-append}
use lib.Seq.{drop-cons, drop-length}
use Rattle.layout.specs.Bytes.{put}
use Rattle.layout.specs.Field.{number_at, bytes_of}
use Rattle.layout.proofs.Bytes.{put-none, put-put, length-put}
use Rattle.layout.proofs.Field.{field-front, field-behind}

pub bytes-zero : (n : ℕ) → bytes_of n 0 ≡ replicate n 0
unfolding bytes_of
bytes-zero zero = refl
bytes-zero (suc n) = ap (λ (l : List ℕ). 0 ∷ l) (bytes-zero n)

-- a field of the middle one of three parts
pub field-middle : (n : ℕ) (s t u : List ℕ) (a k : ℕ) → length s ≡ a → k + n ≤ length t → number_at n (s ++ t ++ u) (a + k) ≡ number_at n t k
field-middle n s t u a k e h =
    field-front n (s ++ t) u (a + k) (rw length-append (omega arith)) ∙ rw (← e) (field-behind n s t k)

-- what a loop that writes n records holds: from a place on, those from i on are left to write
pub record RecordsLeft {A : Type 0} (f : A → List ℕ) (w : ℕ) (s : List ℕ) (at : ℕ) (xs : List A) (n : ℕ) (t : List ℕ) (i : ℕ) : Type 0 where
  pub most : i ≤ n
  pub count : length xs ≡ n
  pub lent : length t ≡ length s
  pub bytes : put s at (flat_map f xs) ≡ put t (at + w * i) (flat_map f (drop i xs))

module _ {A : Type 0} (f : A → List ℕ) (w : ℕ) (long : (x : A) → length (f x) ≡ w) where
  module _ (s : List ℕ) (at : ℕ) (xs : List A) (n : ℕ) where
    pub records-next : {t u : List ℕ} {i : ℕ} (d : A) → RecordsLeft f w s at xs n t i → i < n → u ≡ put t (at + w * i) (f (get_or xs i d)) → RecordsLeft f w s at xs n u (i + 1)
    unfolding flat_map
    records-next {t} {u} {i} d h l e =
        let x = f (get_or xs i d) in
        let next : at + w * (i + 1) ≡ at + w * i + w = omega arith in
        record {
          most = omega arith;
          count = h.count;
          lent = rw (e, length-put) h.lent;
          bytes =
              h.bytes
              ∙ rw (drop-cons xs i d (omega (arith, h.count))) (sym (put-put t (at + w * i) x (flat_map f (drop (suc i) xs))) ∙ rw (long (get_or xs i d), e, next, add-one) refl);
        }

    pub records-none : {t : List ℕ} {i : ℕ} → RecordsLeft f w s at xs n t i → n ≤ i → t ≡ put s at (flat_map f xs)
    unfolding flat_map
    records-none {t} {i} h l =
        let end : i ≡ length xs = omega (arith, h.most, h.count) in
        sym (h.bytes ∙ rw (end, drop-length xs) (put-none t _))

  -- a field of record i
  pub field-record : (n : ℕ) (xs : List A) (i k : ℕ) (d : A) → i < length xs → k + n ≤ w → number_at n (flat_map f xs) (w * i + k) ≡ number_at n (f (get_or xs i d)) k
  unfolding flat_map
  field-record n [] i k d h l = absurd (omega arith)
  field-record n (x ∷ xs) zero k d h l =
      ap (number_at n (f x ++ flat_map f xs)) (omega arith) ∙ field-front n (f x) (flat_map f xs) k (omega (arith, long x))
  field-record n (x ∷ xs) (suc i) k d h l =
      ap (number_at n (f x ++ flat_map f xs)) (omega (arith, long x))
      ∙ field-behind n (f x) (flat_map f xs) (w * i + k)
      ∙ field-record n xs i k d (omega arith) l
