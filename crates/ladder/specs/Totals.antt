-- A running total of flows: their values, and their tolerances (document 01, "Which form belongs where").
use mathlib.Core.List.{List, foldl}
use Rattle.std.specs.Prelude.{ℕ, ◌+◌, ◌*◌, ◌≤◌, pos, nat_abs, ◌+ℤ◌}
use Rattle.laws.specs.All.{All}
use Rattle.ground.specs.Limits.{last_day}
use Rattle.decimal.specs.Product.{unit}
use Rattle.discount.specs.declared.Flow.{Flow}
use Rattle.discount.specs.Flows.{signed, flow_tolerance}
use Rattle.ladder.specs.declared.total.Total.{Total}

-- the total with one flow more: its value, rounded "before the sign", takes the sign here
unfoldable pub plus_flow : Total → Flow → ℕ → Total
plus_flow t f value =
    record {
      sum = t.sum +ℤ signed f.received value;
      tolerance = t.tolerance + flow_tolerance f;
    }

-- with each flow of a list in turn, given the value of each
abbrev pub plus_flows : (Flow → ℕ) → Total → List Flow → Total
plus_flows v t fs = foldl (λ t f. plus_flow t f (v f)) t fs

abbrev pub no_flows : Total
no_flows = record { sum = pos 0; tolerance = 0 }

-- a flow in its limits
pub record FlowLimits (f : Flow) : Type 0 where
  pub amount : f.amount ≤ unit
  pub day : f.day ≤ last_day

-- every flow of a list is
abbrev pub AllFlowLimits : List Flow → Type 0
AllFlowLimits fs = All FlowLimits fs

-- the largest number of flows on a curve: no sum of theirs leaves 64 bits
abbrev pub most_flows : ℕ
most_flows = 140000

-- a sum of so few flows, each adding at most `each`, that it has room for n more
pub record RoomFor (each n size : ℕ) : Type 0 where
  pub fits : size + n * each ≤ most_flows * each

-- so of a total
pub record TotalRoom (n : ℕ) (t : Total) : Type 0 where
  pub value : RoomFor unit n (nat_abs t.sum)
  pub off : RoomFor 1000 n t.tolerance
