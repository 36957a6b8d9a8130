-- The laws of fields in a row: each is read back behind the widths before it, and bytes are those of the fields read from them.
use Rattle.std.proofs.Common.{◌≡◌, ℕ, zero, suc, ◌+◌, ◌≤◌, List, [], ◌∷◌, ◌++◌, length, take, sym, refl, ap, ◌∙◌, arith, length-append}
use Rattle.laws.specs.All.{All}
use Rattle.layout.specs.Bytes.{part, AreBytes}
use Rattle.layout.specs.Field.{number_at, bytes_of}
use Rattle.layout.specs.Row.{Field, Fits, field_in, row_bytes, row_width, row_at}
use Rattle.layout.proofs.Bytes.{part-add, bytes-zeros, bytes-append}
use Rattle.layout.proofs.Field.{field-front, field-behind, field-part, length-bytes, bytes-bytes, number-bytes, bytes-number}

pub length-row : (row : List Field) → length (row_bytes row) ≡ row_width row
unfolding row_bytes
length-row [] = refl
length-row (f ∷ row) = omega (arith, length-append (bytes_of f.0 f.1) (row_bytes row), length-bytes f.0 f.1, length-row row)

pub bytes-row : (row : List Field) → AreBytes (row_bytes row)
unfolding row_bytes
bytes-row [] = bytes-zeros 0
bytes-row (f ∷ row) = bytes-append (bytes_of f.0 f.1) (row_bytes row) (bytes-bytes f.0 f.1) (bytes-row row)

-- a field that fits its width is read back
pub row_field : (row : List Field) (k : ℕ) → Fits (field_in row k) → number_at (field_in row k).0 (row_bytes row) (row_width (take k row)) ≡ (field_in row k).1
unfolding row_bytes number_at
row_field [] k fits = refl
row_field (f ∷ row) zero fits =
    field-front f.0 (bytes_of f.0 f.1) (row_bytes row) 0 (omega (arith, length-bytes f.0 f.1)) ∙ number-bytes f.0 f.1 fits
row_field (f ∷ row) (suc k) fits =
    let n = (field_in row k).0 in
    ap (λ (w : ℕ). number_at n (bytes_of f.0 f.1 ++ row_bytes row) (w + row_width (take k row))) (sym (length-bytes f.0 f.1))
    ∙ field-behind n (bytes_of f.0 f.1) (row_bytes row) (row_width (take k row))
    ∙ row_field row k fits

infixr 20 ◌and◌
-- one field fits, and those behind it
pub ◌and◌ : {A B : Type 0} → A → B → A × B
a and b = (a, b)

pub row_fits : (row : List Field) → All Fits row → (k : ℕ) → Fits (field_in row k)
row_fits [] h k = omega arith
row_fits (f ∷ row) h zero = h.0
row_fits (f ∷ row) h (suc k) = row_fits row h.1 k

row_within : (row : List Field) (k : ℕ) → row_width (take k row) + (field_in row k).0 ≤ row_width row
row_within [] zero = omega arith
row_within [] (suc k) = omega arith
row_within (f ∷ row) zero = omega arith
row_within (f ∷ row) (suc k) = omega (arith, row_within row k)

-- and so where the row stands from a place on
pub row_back : (row : List Field) (s : List ℕ) (at : ℕ) → part s at (row_width row) ≡ row_bytes row → (k : ℕ) → Fits (field_in row k)
    → number_at (field_in row k).0 s (at + row_width (take k row)) ≡ (field_in row k).1
row_back row s at stands k fits =
    sym (field-part (field_in row k).0 s at (row_width row) (row_width (take k row)) (row_within row k)) ∙ rw stands (row_field row k fits)

-- the bytes of fields read from a place on stand there
pub row-part : (row : List Field) (s : List ℕ) (at : ℕ) → AreBytes s → at + row_width row ≤ length s → row_bytes (row_at row s at) ≡ part s at (row_width row)
unfolding row_bytes
row-part [] s at bytes h = refl
row-part (f ∷ row) s at bytes h =
    rw (bytes-number f.0 s at bytes (omega arith), row-part row s (at + f.0) bytes (omega arith)) (sym (part-add s at f.0 (row_width row)))
