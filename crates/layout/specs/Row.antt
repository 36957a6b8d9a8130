-- Fields in a row: each begins where the one before it ends.
use Rattle.std.specs.Prelude.{ℕ, ◌+◌, ◌^◌, ◌<◌, List, [], ◌∷◌, ◌++◌, slice_index_or}
use Rattle.layout.specs.Field.{number_at, bytes_of}

-- a field: its width in bytes, and its number
abbrev pub Field : Type 0
Field = ℕ × ℕ

abbrev pub Fits : Field → Type 0
Fits f = f.1 < 256 ^ f.0

-- field k of a row; past its end, one of no bytes
abbrev pub field_in : List Field → ℕ → Field
field_in row k = slice_index_or row k (0, 0)

unfoldable pub row_bytes : List Field → List ℕ
row_bytes [] = []
row_bytes (f ∷ row) = bytes_of f.0 f.1 ++ row_bytes row

-- how many bytes they take
abbrev pub row_width : List Field → ℕ
row_width [] = 0
row_width (f ∷ row) = f.0 + row_width row

-- fields of the same widths, read from a place on
abbrev pub row_at : List Field → List ℕ → ℕ → List Field
row_at [] s at = []
row_at (f ∷ row) s at = (f.0, number_at f.0 s at) ∷ row_at row s (at + f.0)
