-- A reader of a line gets its amounts back.
use mathlib.Core.Path.{◌≡◌, ap, ◌∙◌}
use mathlib.Core.List.{List, [], ◌∷◌, ◌++◌, flat_map, append_assoc}
use Prim.Native.Nat.{ℕ, zero, suc, ◌+◌, ◌-◌, ◌*◌, ◌≤◌, ◌<◌}
use native.Mathlib.Omega.{arith}
use lib.IntN.{ℤ}
use lib.ListN.{length, get_or, length-append}
use Rattle.laws.specs.All.{All}
use Rattle.layout.specs.Bytes.{part}
use Rattle.layout.proofs.Bytes.{part-behind, part-front}
use Rattle.text.specs.Text.{ascii}
use Rattle.text.specs.Columns.{blanks, amount_column}
use Rattle.text.proofs.Amounts.{length-blanks, length-amount, length-column}
use Rattle.text.specs.Reading.{read_amount}
use Rattle.text.proofs.Reading.{read-amount}
use Rattle.page.specs.Line.{page_line}
use Rattle.page.specs.LineLimits.{AmountFits}

columns-part : (amounts : List ℤ) (rest : List ℕ) → All AmountFits amounts → (j : ℕ) (d : ℤ) → j < length amounts → part (flat_map amount_column amounts ++ rest) (22 * j) 22 ≡ amount_column (get_or amounts j d)
unfolding flat_map
columns-part [] rest h j d l = absurd (omega arith)
columns-part (z ∷ amounts) rest h zero d l =
    let long = length-column z (omega (arith, length-amount z h.0)) in
    rw (append_assoc (amount_column z) (flat_map amount_column amounts) rest) (part-front (amount_column z) (flat_map amount_column amounts ++ rest) 22 long)
columns-part (z ∷ amounts) rest h (suc j) d l =
    let long = length-column z (omega (arith, length-amount z h.0)) in
    let e : 22 * suc j ≡ length (amount_column z) + 22 * j = omega (arith, long) in
    rw (append_assoc (amount_column z) (flat_map amount_column amounts) rest, e)
    (part-behind (amount_column z) (flat_map amount_column amounts ++ rest) (22 * j) 22 ∙ columns-part amounts rest h.1 j d (omega arith))

fits-at : (amounts : List ℤ) → All AmountFits amounts → (j : ℕ) (d : ℤ) → j < length amounts → AmountFits (get_or amounts j d)
fits-at [] h j d l = absurd (omega arith)
fits-at (z ∷ amounts) h zero d l = h.0
fits-at (z ∷ amounts) h (suc j) d l = fits-at amounts h.1 j d (omega arith)

-- amount j of a line, from 0
pub line-amount : (left : List ℕ) (amounts : List ℤ) → All AmountFits amounts → 22 * length amounts + length left ≤ 80 → (j : ℕ) (d : ℤ) → j < length amounts
    → read_amount (part (page_line left amounts) (80 - 22 * length amounts + 22 * j) 22) ≡ get_or amounts j d
unfolding page_line ascii
line-amount left amounts h l j d m =
    let gap = 80 - 22 * length amounts - length left in
    let front = left ++ blanks gap in
    let long : length front ≡ 80 - 22 * length amounts = length-append left (blanks gap) ∙ omega (arith, length-blanks gap) in
    let e : 80 - 22 * length amounts + 22 * j ≡ length front + 22 * j = omega (arith, long) in
    let column : part (front ++ flat_map amount_column amounts ++ (10 ∷ [])) (80 - 22 * length amounts + 22 * j) 22 ≡ amount_column (get_or amounts j d) =
    rw (append_assoc front (flat_map amount_column amounts) (10 ∷ []), e)
    (part-behind front (flat_map amount_column amounts ++ (10 ∷ [])) (22 * j) 22 ∙ columns-part amounts (10 ∷ []) h j d m) in
    ap read_amount column ∙ read-amount (get_or amounts j d) (omega (arith, fits-at amounts h j d m))
