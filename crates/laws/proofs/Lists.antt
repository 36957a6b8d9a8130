-- Lists by index: `map`, `flat_map` of lists that are all of one length, the first n elements one by one, and a list whose elements are changed one by one.
use mathlib.Core.Path.{◌≡◌, refl, sym, ◌∙◌, ap, subst}
use mathlib.Core.List.{List, [], ◌∷◌, ◌++◌, map, flat_map}
use Prim.Native.Nat.{ℕ, zero, suc, ◌+◌, ◌-◌, ◌*◌, ◌/◌, ◌%◌, ◌≤◌, ◌<◌}
use native.Mathlib.Nat.{div-eq_of_lt, mod-eq_of_lt, add-div_left, add-mod_left, zero-mul, suc-mul}
use native.Mathlib.Decide.{dec_lt}
use native.Mathlib.Numerals.{add-one}
use native.Mathlib.Omega.{arith}
use lib.ListN.{length, get_or, set, take, drop, length-append, get_or-append}
use lib.Seq.{get_or-append-add, get_or-take, drop-cons, length-take-le}

-- in the list, whatever stands past its end
pub get_d-map-in : {A B : Type 0} (f : A → B) (l : List A) (n : ℕ) (d : A) (e : B) → n < length l → get_or (map f l) n e ≡ f (get_or l n d)
get_d-map-in f [] n d e h = absurd (omega arith)
get_d-map-in f (x ∷ l) zero d e h = refl
get_d-map-in f (x ∷ l) (suc n) d e h = get_d-map-in f l n d e (omega arith)

-- two functions that agree on every element
pub map_same : {A B : Type 0} (f g : A → B) (l : List A) (d : A) → ((k : ℕ) → k < length l → f (get_or l k d) ≡ g (get_or l k d)) → map f l ≡ map g l
map_same f g [] d h = refl
map_same {A} {B} f g (x ∷ l) d h = rw (h 0 (omega arith)) (ap (λ (t : List B). g x ∷ t) (map_same f g l d (λ k m. h (suc k) (omega arith))))

module _ {A B : Type 0} (f : A → List B) (n : ℕ) (some : 0 < n) (long : (x : A) → length (f x) ≡ n) where
  pub length-flat_map : (xs : List A) → length (flat_map f xs) ≡ length xs * n
  unfolding flat_map
  length-flat_map [] = sym (zero-mul n)
  length-flat_map (x ∷ xs) =
      omega (arith, length-append (f x) (flat_map f xs), long x, length-flat_map xs, suc-mul (length xs) n)

  -- entry s is entry s % n of the list of element s / n
  pub get_d-flat_map : (xs : List A) (s : ℕ) (d : A) (e : B) → s < length xs * n → get_or (flat_map f xs) s e ≡ get_or (f (get_or xs (s / n) d)) (s % n) e
  unfolding flat_map
  get_d-flat_map [] s d e h = absurd (omega (arith, zero-mul n))
  get_d-flat_map (x ∷ xs) s d e h = go (dec_lt s n) (λ r. get_d-flat_map xs r d e)
    where
      later : (r : ℕ) → get_or (flat_map f xs) r e ≡ get_or (f (get_or xs (r / n) d)) (r % n) e → get_or (f x ++ flat_map f xs) (n + r) e ≡ get_or (f (get_or (x ∷ xs) ((n + r) / n) d)) ((n + r) % n) e
      later r ih =
          rw (add-div_left r some, add-mod_left, add-one)
          (ap (λ (k : ℕ). get_or (f x ++ flat_map f xs) (k + r) e) (sym (long x)) ∙ get_or-append-add (f x) (flat_map f xs) r e ∙ ih)

      go : Dec (s < n) → ((r : ℕ) → r < length xs * n → get_or (flat_map f xs) r e ≡ get_or (f (get_or xs (r / n) d)) (r % n) e) → get_or (f x ++ flat_map f xs) s e ≡ get_or (f (get_or (x ∷ xs) (s / n) d)) (s % n) e
      go (yes l) ih =
          rw (div-eq_of_lt l, mod-eq_of_lt l) (get_or-append (f x) (flat_map f xs) e s (omega (arith, long x)))
      go (no l) ih =
          let p : n + (s - n) ≡ s = omega arith in
          subst (λ (k : ℕ). get_or (f x ++ flat_map f xs) k e ≡ get_or (f (get_or (x ∷ xs) (k / n) d)) (k % n) e) p (later (s - n) (ih (s - n) (omega (arith, suc-mul (length xs) n))))

-- ---- the first n elements of l, from i on: the next one, or none

pub drop-next : {A : Type 0} (l : List A) (n i : ℕ) (d : A) → n ≤ length l → i < n → drop i (take n l) ≡ get_or l i d ∷ drop (suc i) (take n l)
drop-next {A} l n i d h k =
    drop-cons (take n l) i d (rw (length-take-le n l h) k)
    ∙ ap (λ (x : A). x ∷ drop (suc i) (take n l)) (get_or-take n l i d k)

pub drop-end : {A : Type 0} (l : List A) (n i : ℕ) → n ≤ i → drop i (take n l) ≡ []
drop-end l zero zero h = refl
drop-end l zero (suc i) h = refl
drop-end l (suc n) zero h = absurd (omega arith)
drop-end [] (suc n) (suc i) h = refl
drop-end (x ∷ l) (suc n) (suc i) h = drop-end l n i (omega arith)

-- ---- f of the first n elements of l, and the others as they are: what a loop holds that changes each element in its place

abbrev pub map_first : {A : Type 0} → (A → A) → ℕ → List A → List A
map_first f n l = map f (take n l) ++ drop n l

module _ {A : Type 0} (f : A → A) where
  pub length-map_first : (n : ℕ) (l : List A) → length (map_first f n l) ≡ length l
  length-map_first zero l = refl
  length-map_first (suc n) [] = refl
  length-map_first (suc n) (x ∷ l) = ap suc (length-map_first n l)

  pub map_first-done : (n : ℕ) (l : List A) (i : ℕ) (d : A) → i < n → i < length l → get_or (map_first f n l) i d ≡ f (get_or l i d)
  map_first-done zero l i d h k = absurd (omega arith)
  map_first-done (suc n) [] i d h k = absurd (omega arith)
  map_first-done (suc n) (x ∷ l) zero d h k = refl
  map_first-done (suc n) (x ∷ l) (suc i) d h k = map_first-done n l i d (omega arith) (omega arith)

  pub map_first-kept : (n : ℕ) (l : List A) (i : ℕ) (d : A) → n ≤ i → get_or (map_first f n l) i d ≡ get_or l i d
  map_first-kept zero l i d h = refl
  map_first-kept (suc n) [] i d h = refl
  map_first-kept (suc n) (x ∷ l) zero d h = absurd (omega arith)
  map_first-kept (suc n) (x ∷ l) (suc i) d h = map_first-kept n l i d (omega arith)

  pub map_first-next : (n : ℕ) (l : List A) (d : A) → n < length l → set (map_first f n l) n (f (get_or l n d)) ≡ map_first f (suc n) l
  map_first-next n [] d h = absurd (omega arith)
  map_first-next zero (x ∷ l) d h = refl
  map_first-next (suc n) (x ∷ l) d h = ap (λ (t : List A). f x ∷ t) (map_first-next n l d (omega arith))

  pub take-map_first : (n : ℕ) (l : List A) → take n (map_first f n l) ≡ map f (take n l)
  take-map_first zero l = refl
  take-map_first (suc n) [] = refl
  take-map_first (suc n) (x ∷ l) = ap (λ (t : List A). f x ∷ t) (take-map_first n l)
