-- What a line counts on: an accepted book keeps to it.
use Rattle.std.specs.Prelude.{◌^◌, ◌≤◌, ℤ, nat_abs}
use Rattle.ground.specs.Limits.{last_day}
use Rattle.decimal.specs.Product.{unit}
use Rattle.record.specs.declared.Fields.{Fields}
use Rattle.page.specs.Line.{line_day}

-- an amount of 64 bits
abbrev pub AmountFits : ℤ → Type 0
AmountFits z = nat_abs z ≤ 2 ^ 63

pub record TradeLineLimits (f : Fields) : Type 0 where
  pub kind : f.form.kind ≤ 3
  pub side : f.form.side ≤ 2
  pub first : f.days.first ≤ last_day
  pub period : f.days.period ≤ 366
  pub payments : f.days.payments ≤ 120
  pub day : line_day f ≤ last_day
  pub nominal : f.amounts.nominal ≤ unit
