-- The laws of `select`: joined lists, lists by index, and a test of a test.
use mathlib.Core.Path.{◌≡◌, refl, ap, ◌∙◌}
use mathlib.Core.Bool.{Bool, true, false, ◌&&◌, cond}
use mathlib.Core.List.{List, [], ◌∷◌, ◌++◌, append-nil}
use Prim.Native.Nat.{ℕ, zero, suc, ◌+◌, ◌≤◌, ◌<◌}
use native.Mathlib.Omega.{arith}
use lib.ListN.{length}
use Rattle.laws.specs.All.{All}
use Rattle.laws.specs.Select.{select}
use Rattle.laws.specs.Walk.{table}
use Rattle.laws.proofs.Tables.{table-add}

module _ {A : Type 0} (test : A → Bool) where
  pub select-append : (xs ys : List A) → select test (xs ++ ys) ≡ select test xs ++ select test ys
  unfolding select
  select-append [] ys = refl
  select-append (x ∷ xs) ys = go (test x) (select-append xs ys)
    where
      go : (t : Bool) → select test (xs ++ ys) ≡ select test xs ++ select test ys
          → cond t (x ∷ select test (xs ++ ys)) (select test (xs ++ ys)) ≡ cond t (x ∷ select test xs) (select test xs) ++ select test ys
      go true e = ap (λ (l : List A). x ∷ l) e
      go false e = e

  pub select-few : (xs : List A) → length (select test xs) ≤ length xs
  unfolding select
  select-few [] = omega arith
  select-few (x ∷ xs) = go (test x) (select-few xs)
    where
      go : (t : Bool) → length (select test xs) ≤ length xs → length (cond t (x ∷ select test xs) (select test xs)) ≤ suc (length xs)
      go true h = omega arith
      go false h = omega arith

  -- what holds of each element holds of each that passes
  pub select-each : (P : A → Type 0) (xs : List A) → All P xs → All P (select test xs)
  unfolding select
  select-each P [] h = tt
  select-each P (x ∷ xs) h = go (test x) (select-each P xs h.1)
    where
      go : (t : Bool) → All P (select test xs) → All P (cond t (x ∷ select test xs) (select test xs))
      go true r = (h.0, r)
      go false r = r

  -- ---- a list by index

  module _ (f : ℕ → A) where
    pub select-all : (i n : ℕ) → ((k : ℕ) → i ≤ k → k < i + n → test (f k) ≡ true) → select test (table f i n) ≡ table f i n
    unfolding select table
    select-all i zero h = refl
    select-all i (suc n) h = rw (h i (omega arith) (omega arith), select-all (suc i) n (λ k l m. h k (omega arith) (omega arith))) refl

    pub select-none : (i n : ℕ) → ((k : ℕ) → i ≤ k → k < i + n → test (f k) ≡ false) → select test (table f i n) ≡ []
    unfolding select table
    select-none i zero h = refl
    select-none i (suc n) h = rw (h i (omega arith) (omega arith), select-none (suc i) n (λ k l m. h k (omega arith) (omega arith))) refl

    -- the first m pass and the n behind them do not
    pub select-first : (m n : ℕ) → ((k : ℕ) → k < m → test (f k) ≡ true) → ((k : ℕ) → m ≤ k → k < m + n → test (f k) ≡ false)
        → select test (table f 0 (m + n)) ≡ table f 0 m
    select-first m n h g =
        ap (select test) (table-add f 0 m n)
        ∙ select-append (table f 0 m) (table f (0 + m) n)
        ∙ rw (select-all 0 m (λ k l b. h k (omega arith)), select-none (0 + m) n (λ k l b. g k (omega arith) (omega arith))) (append-nil (table f 0 m))

    -- and the other way round
    pub select-rest : (m n : ℕ) → ((k : ℕ) → k < m → test (f k) ≡ false) → ((k : ℕ) → m ≤ k → k < m + n → test (f k) ≡ true)
        → select test (table f 0 (m + n)) ≡ table f (0 + m) n
    select-rest m n h g =
        ap (select test) (table-add f 0 m n)
        ∙ select-append (table f 0 m) (table f (0 + m) n)
        ∙ rw (select-none 0 m (λ k l b. h k (omega arith)), select-all (0 + m) n (λ k l b. g k (omega arith) (omega arith))) refl

-- ---- several tests

-- those of the elements that pass one test that pass another
pub select-both : {A : Type 0} (p q : A → Bool) (xs : List A) → select q (select p xs) ≡ select (λ (x : A). p x && q x) xs
unfolding select
select-both p q [] = refl
select-both {A} p q (x ∷ xs) = go (p x) refl (select-both p q xs)
  where
    go : (t : Bool) → p x ≡ t → select q (select p xs) ≡ select (λ (y : A). p y && q y) xs
        → select q (cond t (x ∷ select p xs) (select p xs)) ≡ cond (t && q x) (x ∷ select (λ (y : A). p y && q y) xs) (select (λ (y : A). p y && q y) xs)
    go true e h = rw h
    go false e h = h

-- every element passes
pub select-whole : {A : Type 0} (xs : List A) → select (λ (x : A). true) xs ≡ xs
unfolding select
select-whole [] = refl
select-whole (x ∷ xs) = rw (select-whole xs) refl
