-- A line written part by part: what stands from the left, blanks, amounts, the line feed.
use mathlib.Core.Path.{◌≡◌, sym, ap, ◌∙◌}
use mathlib.Core.List.{List, [], ◌∷◌, ◌++◌, flat_map, append_assoc, append-nil}
use Prim.Native.Nat.{ℕ, ◌+◌, ◌-◌, ◌*◌, ◌≤◌}
use native.Mathlib.Omega.{arith}
use lib.IntN.{ℤ}
use lib.ListN.{length}
use Rattle.text.specs.Text.{ascii, TextWritten}
use Rattle.text.specs.Columns.{blanks, amount_text, right_aligned, amount_column}
use Rattle.text.proofs.Amounts.{wider-column}
use Rattle.text.proofs.Writing.{written_none, and_then}
use Rattle.page.specs.Line.{page_line}

pub line-written : (left : List ℕ) (amounts : List ℤ) (n : ℕ) → n ≡ 80 - 22 * length amounts - length left
    → {s : List ℕ} {at : ℕ} {t : List ℕ} {i : ℕ} {u : List ℕ} {j : ℕ} {v : List ℕ} {k : ℕ} {w : List ℕ} {end : ℕ}
    → TextWritten s at left t i → TextWritten t i (blanks n) u j → TextWritten u j (flat_map amount_column amounts) v k → TextWritten v k (10 ∷ []) w end
    → TextWritten s at (page_line left amounts) w end
unfolding page_line ascii
line-written left amounts n e a b c d = and_then (and_then (and_then a (rw e at b)) c) d

pub no-amount : (s : List ℕ) (at : ℕ) → TextWritten s at (flat_map amount_column []) s at
unfolding flat_map
no-amount s at = written_none s at

pub one-amount : (z : ℤ) {s : List ℕ} {at : ℕ} {t : List ℕ} {end : ℕ} → TextWritten s at (amount_column z) t end → TextWritten s at (flat_map amount_column (z ∷ [])) t end
unfolding flat_map
one-amount z w = and_then w (written_none _ _)

-- an amount, and others behind it
pub more-amounts : (z : ℤ) (amounts : List ℤ) {s : List ℕ} {at : ℕ} {t : List ℕ} {i : ℕ} {u : List ℕ} {end : ℕ}
    → TextWritten s at (amount_column z) t i → TextWritten t i (flat_map amount_column amounts) u end → TextWritten s at (flat_map amount_column (z ∷ amounts)) u end
unfolding flat_map
more-amounts z amounts w ws = and_then w ws

-- a line of one amount, which is written with the blanks before it
pub one-amount-line : (left : List ℕ) (z : ℤ) (width : ℕ) → width + length left ≡ 80 → 22 ≤ width → length (amount_text z) ≤ 22
    → {s : List ℕ} {at : ℕ} {t : List ℕ} {i : ℕ} {u : List ℕ} {j : ℕ} {w : List ℕ} {end : ℕ}
    → TextWritten s at left t i → TextWritten t i (right_aligned width z) u j → TextWritten u j (10 ∷ []) w end
    → TextWritten s at (page_line left (z ∷ [])) w end
unfolding page_line ascii flat_map
one-amount-line left z width e l h a b d =
    let n = 80 - 22 * 1 - length left in
    let wide : width ≡ n + 22 = omega arith in
    let column = rw (wide, wider-column n z h) at b in
    let whole : left ++ (blanks n ++ amount_column z) ≡ left ++ blanks n ++ (amount_column z ++ []) =
    sym (append_assoc left (blanks n) (amount_column z)) ∙ ap (λ (c : List ℕ). left ++ blanks n ++ c) (sym (append-nil (amount_column z))) in
    and_then (rw whole at (and_then a column)) d
