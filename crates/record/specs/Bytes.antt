-- The 56 bytes of a record (document 01, "Record"), read as fields and written from them.
use Rattle.std.specs.Prelude.{ℕ, List, [], ◌∷◌}
use Rattle.layout.specs.Bytes.{byte_at}
use Rattle.layout.specs.Field.{u16_at, u32_at, u64_at}
use Rattle.layout.specs.Row.{Field, row_bytes}
use Rattle.record.specs.declared.Form.{Form}
use Rattle.record.specs.declared.Days.{Days}
use Rattle.record.specs.declared.Amounts.{Amounts}
use Rattle.record.specs.declared.Fields.{Fields}

-- ---- each field by its place

unfoldable pub form_of : List ℕ → Form
form_of s = record {
  kind = byte_at s 0;
  side = byte_at s 1;
  phase = byte_at s 2;
  securitycurve = byte_at s 3;
  cashcurve = byte_at s 4;
  security = byte_at s 5;
  blank = u16_at s 6;
}

unfoldable pub days_of : List ℕ → Days
days_of s = record {
  valueday1 = u16_at s 8;
  valueday2 = u16_at s 10;
  first = u16_at s 12;
  period = u16_at s 14;
  payments = u16_at s 16;
  term = u16_at s 18;
}

unfoldable pub amounts_of : List ℕ → Amounts
amounts_of s = record {
  coupon = u32_at s 20;
  nominal = u64_at s 24;
  cash = u64_at s 32;
  price = u32_at s 40;
  accrued = u32_at s 44;
  index = u32_at s 48;
  issue = u32_at s 52;
}

unfoldable pub fields_of : List ℕ → Fields
fields_of s = record { form = form_of s; days = days_of s; amounts = amounts_of s }

-- ---- the fields in a row, each with its width

unfoldable pub record_row : Fields → List Field
record_row f =
    (1, f.form.kind)
    ∷ (1, f.form.side)
    ∷ (1, f.form.phase)
    ∷ (1, f.form.securitycurve)
    ∷ (1, f.form.cashcurve)
    ∷ (1, f.form.security)
    ∷ (2, f.form.blank)
    ∷ (2, f.days.valueday1)
    ∷ (2, f.days.valueday2)
    ∷ (2, f.days.first)
    ∷ (2, f.days.period)
    ∷ (2, f.days.payments)
    ∷ (2, f.days.term)
    ∷ (4, f.amounts.coupon)
    ∷ (8, f.amounts.nominal)
    ∷ (8, f.amounts.cash)
    ∷ (4, f.amounts.price)
    ∷ (4, f.amounts.accrued)
    ∷ (4, f.amounts.index)
    ∷ (4, f.amounts.issue)
    ∷ []

unfoldable pub record_bytes : Fields → List ℕ
record_bytes f = row_bytes (record_row f)
