-- What the code makes of a trade's legs before the limit is tested: an amount above the largest, which may not fit 64 bits, stands as one
-- above the largest.
use Rattle.std.specs.Prelude.{ℕ, ◌+◌, cond, leb}
use Rattle.decimal.specs.Product.{unit}
use Rattle.legs.specs.declared.Leg.{Leg}
use Rattle.legs.specs.declared.Legs.{Legs}

unfoldable pub capped : ℕ → ℕ
capped amount = cond (leb amount unit) amount (unit + 1)

abbrev pub capped_leg : Leg → Leg
capped_leg l = record {
  curve = l.curve;
  received = l.received;
  first = l.first;
  period = l.period;
  count = l.count;
  each = capped l.each;
  last = capped l.last;
}

abbrev pub capped_legs : Legs → Legs
capped_legs l = record { first = capped_leg l.first; second = capped_leg l.second; payments = capped_leg l.payments }
