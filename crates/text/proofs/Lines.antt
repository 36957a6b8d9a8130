-- Lines one by one, as a loop takes them, and how long they are together.
use mathlib.Core.Path.{◌≡◌, ◌∙◌}
use mathlib.Core.List.{List, [], ◌∷◌, ◌++◌}
use Prim.Native.Nat.{ℕ, zero, suc, ◌+◌, ◌*◌, ◌≤◌, ◌<◌}
use native.Mathlib.Nat.{suc-mul, zero-mul}
use native.Mathlib.Numerals.{add-one}
use native.Mathlib.Omega.{arith}
use lib.ListN.{length, get_or, drop, length-append, get_or-append}
use lib.Seq.{drop-cons, drop-length}
use Rattle.layout.specs.Bytes.{part}
use Rattle.layout.proofs.Bytes.{part_same, part-behind}
use Rattle.text.specs.Text.{lines_of}

module _ {A : Type 0} (line : ℕ → A → List ℕ) (l : List A) (i k : ℕ) where
  pub lines_next : (d : A) → i < length l → lines_of line k (drop i l) ≡ line k (get_or l i d) ++ lines_of line (k + 1) (drop (i + 1) l)
  unfolding lines_of
  lines_next d h = rw (drop-cons l i d h) (simp add-one)

  pub lines_none : i ≡ length l → lines_of line k (drop i l) ≡ []
  unfolding lines_of
  lines_none h = rw (h, drop-length l)

-- each of w bytes
pub length-lines : {A : Type 0} (line : ℕ → A → List ℕ) (w : ℕ) (xs : List A) (d : A) (k : ℕ) → ((i : ℕ) → i < length xs → length (line (k + i) (get_or xs i d)) ≡ w)
    → length (lines_of line k xs) ≡ length xs * w
unfolding lines_of
length-lines line w [] d k h = omega (arith, zero-mul w)
length-lines line w (x ∷ xs) d k h =
    let later = length-lines line w xs d (suc k) (λ i l. let e : suc k + i ≡ k + suc i = omega arith in rw e (h (suc i) (omega arith))) in
    let this : length (line k x) ≡ w = let e : k + 0 ≡ k = omega arith in rw e at (h 0 (omega arith)) in
    rw length-append (omega (arith, this, later, suc-mul (length xs) w))

-- ---- read again

pub part-within : (xs ys : List ℕ) (at n : ℕ) → at + n ≤ length xs → part (xs ++ ys) at n ≡ part xs at n
part-within xs ys at n h =
    part_same (xs ++ ys) at xs at n (omega (arith, length-append xs ys)) h (λ k l. get_or-append xs ys 0 (at + k) (omega arith))

-- of lines of w bytes each, a part of one is that part of them all
pub part-lines : {A : Type 0} (line : ℕ → A → List ℕ) (w : ℕ) (xs : List A) (d : A) (k : ℕ) → ((i : ℕ) → i < length xs → length (line (k + i) (get_or xs i d)) ≡ w)
    → (i o n : ℕ) → i < length xs → o + n ≤ w → part (lines_of line k xs) (i * w + o) n ≡ part (line (k + i) (get_or xs i d)) o n
unfolding lines_of
part-lines line w [] d k h i o n l r = absurd (omega arith)
part-lines line w (x ∷ xs) d k h zero o n l r =
    let e : k + 0 ≡ k = omega arith in
    let z : 0 * w + o ≡ o = omega (arith, zero-mul w) in
    let this : length (line k x) ≡ w = rw e at (h 0 (omega arith)) in
    rw (z, e) (part-within (line k x) (lines_of line (suc k) xs) o n (omega (arith, this)))
part-lines line w (x ∷ xs) d k h (suc i) o n l r =
    let e : k + 0 ≡ k = omega arith in
    let f : suc k + i ≡ k + suc i = omega arith in
    let this : length (line k x) ≡ w = rw e at (h 0 (omega arith)) in
    let z : suc i * w + o ≡ length (line k x) + (i * w + o) = omega (arith, this, suc-mul i w) in
    let later = part-lines line w xs d (suc k) (λ j m. let g : suc k + j ≡ k + suc j = omega arith in rw g (h (suc j) (omega arith))) i o n (omega arith) r in
    rw z (part-behind (line k x) (lines_of line (suc k) xs) (i * w + o) n) ∙ later ∙ rw f
