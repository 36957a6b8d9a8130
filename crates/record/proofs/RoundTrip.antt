-- The bytes of a record's fields are the record's bytes, and fields that were written are read back.
use mathlib.Core.Path.{◌≡◌, sym, ◌∙◌, ap}
use mathlib.Core.List.{List}
use Prim.Native.Nat.{ℕ}
use native.Mathlib.Omega.{arith}
use lib.ListN.{length, take}
use Rattle.laws.specs.All.{All}
use Rattle.layout.specs.Bytes.{part, AreBytes}
use Rattle.layout.specs.Field.{number_at}
use Rattle.layout.specs.Row.{Fits, field_in, row_width}
use Rattle.layout.proofs.Bytes.{part-all}
use Rattle.layout.proofs.Field.{field-byte}
use Rattle.layout.proofs.Row.{length-row, row_field, row_fits, row-part}
use Rattle.record.specs.declared.Fields.{Fields}
use Rattle.record.specs.Bytes.{form_of, days_of, amounts_of, fields_of, record_row, record_bytes}

-- from bytes to fields and back
pub bytes-fields-bytes : (b : List ℕ) → length b ≡ 56 → AreBytes b → record_bytes (fields_of b) ≡ b
unfolding record_bytes record_row fields_of form_of days_of amounts_of
bytes-fields-bytes b long bytes =
    simp (← field-byte b) (row-part (record_row (fields_of b)) b 0 bytes (omega arith) ∙ ap (part b 0) (sym long) ∙ part-all b)

-- every field keeps the width of its place
abbrev pub Narrow : Fields → Type 0
Narrow f = All Fits (record_row f)

-- from fields to bytes and back
pub fields-bytes-fields : (f : Fields) → Narrow f → fields_of (record_bytes f) ≡ f
unfolding fields_of form_of days_of amounts_of record_bytes record_row
fields-bytes-fields f n =
    let back : (k : ℕ) → number_at (field_in (record_row f) k).0 (record_bytes f) (row_width (take k (record_row f))) ≡ (field_in (record_row f) k).1 =
    λ k. row_field (record_row f) k (row_fits (record_row f) n k) in
    simp (← field-byte (record_bytes f))
    (rw (back 0, back 1, back 2, back 3, back 4, back 5, back 6)
    (rw (back 7, back 8, back 9, back 10, back 11, back 12) (rw (back 13, back 14, back 15, back 16, back 17, back 18, back 19))))

pub length-record_bytes : (f : Fields) → length (record_bytes f) ≡ 56
unfolding record_bytes record_row
length-record_bytes f = length-row (record_row f)
