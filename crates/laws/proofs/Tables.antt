-- Lists by index, cut and joined: `table`, and lists that are all of one length, one behind the other.
use mathlib.Core.Path.{◌≡◌, refl, sym, ap, ◌∙◌}
use mathlib.Core.List.{List, [], ◌∷◌, ◌++◌, flatten, flat_map, append_assoc, append-nil}
use Prim.Native.Nat.{ℕ, zero, suc, ◌+◌, ◌-◌, ◌*◌, ◌≤◌, ◌<◌, min}
use native.Mathlib.Nat.{zero-add, add-zero, zero-mul, suc-mul}
use native.Mathlib.Numerals.{add-one}
use native.Mathlib.Omega.{arith}
use lib.ListN.{length, take, drop, get_or, length-append, length-take, length-drop}
use lib.Seq.{ext_get_or, get_or-take, get_or-drop, take-add, drop-drop, take_at, drop-append-add}
use Rattle.laws.specs.Walk.{table}
use Rattle.laws.proofs.Walk.{length-table, get_d-table}

-- ---- table

module _ {A : Type 0} where
  pub table_same : (f g : ℕ → A) (i j n : ℕ) → ((k : ℕ) → k < n → f (i + k) ≡ g (j + k)) → table f i n ≡ table g j n
  unfolding table
  table_same f g i j zero same = refl
  table_same f g i j (suc n) same =
      let first : f i ≡ g j = simp add-zero at (same 0 (omega arith)) in
      rw (first, table_same f g (suc i) (suc j) n (λ k l. ap f (omega arith) ∙ same (suc k) (omega arith) ∙ ap g (omega arith)))

  -- the first m, and the n behind them
  pub table-add : (f : ℕ → A) (i m n : ℕ) → table f i (m + n) ≡ table f i m ++ table f (i + m) n
  unfolding table
  table-add f i zero n = simp (zero-add, add-zero)
  table-add f i (suc m) n =
      let e : suc m + n ≡ suc (m + n) = omega arith in
      let g : i + suc m ≡ suc i + m = omega arith in
      rw (e, g) (ap (λ (l : List A). f i ∷ l) (table-add f (suc i) m n))

  -- the m from k on, as far as there are any
  pub table-part : (f : ℕ → A) (i n k m : ℕ) → take m (drop k (table f i n)) ≡ table f (i + k) (min m (n - k))
  table-part f i n k m =
      let d = f 0 in
      let l : length (take m (drop k (table f i n))) ≡ min m (n - k) = simp (length-take, length-drop, length-table) in
      ext_get_or d (take m (drop k (table f i n))) (table f (i + k) (min m (n - k))) (l ∙ sym (length-table f (i + k) (min m (n - k))))
      (λ j b.
      get_or-take m (drop k (table f i n)) j d (omega arith)
      ∙ get_or-drop k (table f i n) j d
      ∙ get_d-table f i n (k + j) d (omega arith)
      ∙ ap f (omega arith)
      ∙ sym (get_d-table f (i + k) (min m (n - k)) j d (omega arith)))

  -- a list is the table of its elements
  pub table_of : (l : List A) (d : A) → table (λ (k : ℕ). get_or l k d) 0 (length l) ≡ l
  table_of l d =
      let f : ℕ → A = λ k. get_or l k d in
      let e = length-table f 0 (length l) in
      ext_get_or d (table f 0 (length l)) l e (λ j b. get_d-table f 0 (length l) j d (omega arith) ∙ ap f (zero-add j))

-- ---- a loop's: what is left of the table is `table f i (n - i)`

module _ {A : Type 0} (f : ℕ → A) where
  pub table_step : (i n : ℕ) → i < n → table f i (n - i) ≡ f i ∷ table f (i + 1) (n - (i + 1))
  unfolding table
  table_step i n h =
      let e : n - i ≡ suc (n - (i + 1)) = omega arith in
      rw (e, add-one)

  pub table-end : (i n : ℕ) → n ≤ i → table f i (n - i) ≡ []
  unfolding table
  table-end i n h =
      let e : n - i ≡ 0 = omega arith in
      rw e

  -- a list whose elements are those of the table is the table
  pub table-by : (d : A) (n : ℕ) (l : List A) → length l ≡ n → ((k : ℕ) → k < n → get_or l k d ≡ f k) → l ≡ table f 0 n
  table-by d n l e h =
      ext_get_or d l (table f 0 n) (e ∙ sym (length-table f 0 n))
      (λ k m. h k (omega arith) ∙ ap f (sym (zero-add k)) ∙ sym (get_d-table f 0 n k d (omega arith)))

-- ---- `flat_map` over a table

module _ {A B : Type 0} (g : ℕ → A) where
  pub flat-more : (f : A → List B) (i n : ℕ) → flat_map f (table g i (suc n)) ≡ flat_map f (table g i n) ++ f (g (i + n))
  unfolding table flat_map
  flat-more f i zero = append-nil (f (g i)) ∙ ap (λ (k : ℕ). f (g k)) (sym (add-zero i))
  flat-more f i (suc n) =
      let e : suc i + n ≡ i + suc n = omega arith in
      ap (λ (l : List B). f (g i) ++ l) (flat-more f (suc i) n)
      ∙ sym (append_assoc (f (g i)) (flat_map f (table g (suc i) n)) (f (g (suc i + n))))
      ∙ ap (λ (m : ℕ). (f (g i) ++ flat_map f (table g (suc i) n)) ++ f (g m)) e

-- ---- lists of m elements each, one behind the other

-- each list of L has m elements
abbrev pub Each : {A : Type 0} → ℕ → List (List A) → Type 0
Each m L = (k : ℕ) → k < length L → length (get_or L k []) ≡ m

module _ {A : Type 0} (m : ℕ) where
  pub length-flatten : (L : List (List A)) → Each m L → length (flatten L) ≡ length L * m
  unfolding flatten
  length-flatten [] each = sym (zero-mul m)
  length-flatten (l ∷ L) each =
      omega (arith, length-append l (flatten L), each 0 (omega arith), length-flatten L (λ k b. each (suc k) (omega arith)), suc-mul (length L) m)

  -- list k of them, whatever stands behind the last
  pub part-flatten : (L : List (List A)) (rest : List A) → Each m L → (k : ℕ) → k < length L → take m (drop (k * m) (flatten L ++ rest)) ≡ get_or L k []
  unfolding flatten
  part-flatten [] rest each k b = absurd (omega arith)
  part-flatten (l ∷ L) rest each zero b =
      rw (zero-mul, append_assoc l (flatten L) rest) (take_at l (flatten L ++ rest) m (each 0 (omega arith)))
  part-flatten (l ∷ L) rest each (suc k) b =
      let e : suc k * m ≡ length l + k * m = omega (arith, suc-mul k m, each 0 (omega arith)) in
      rw (e, append_assoc l (flatten L) rest, drop-append-add l (flatten L ++ rest) (k * m))
      (part-flatten L rest (λ j c. each (suc j) (omega arith)) k (omega arith))

  -- the parts of a list from a place on are the list from there on
  pub flatten-parts : (s : List A) (at n : ℕ) → flatten (table (λ (i : ℕ). take m (drop (at + i * m) s)) 0 n) ≡ take (n * m) (drop at s)
  unfolding flatten table
  flatten-parts s at zero = rw zero-mul
  flatten-parts s at (suc n) =
      let first : at + 0 * m ≡ at = omega (arith, zero-mul m) in
      let later = table_same (λ (i : ℕ). take m (drop (at + i * m) s)) (λ (i : ℕ). take m (drop (at + m + i * m) s)) 1 0 n
      (λ k b. let e : at + (1 + k) * m ≡ at + m + (0 + k) * m = omega arith in ap (λ (x : ℕ). take m (drop x s)) e) in
      let e : suc n * m ≡ m + n * m = omega (arith, suc-mul n m) in
      rw (first, later, e, flatten-parts s (at + m) n, take-add m (n * m) (drop at s), drop-drop m at s)
