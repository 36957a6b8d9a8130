-- A leg: a run of cash flows, as received or by its sign.
use Rattle.std.specs.Prelude.{ℕ, ◌+◌, ◌*◌, Bool, true, false, cond, List, ◌++◌, eqb, Option, Some, None}
use Rattle.laws.specs.Walk.{table}
use Rattle.discount.specs.declared.Flow.{Flow}
use Rattle.legs.specs.declared.signs.Direction.{Direction}
use Rattle.legs.specs.declared.signs.Direction.TheVariants.{In, Out}
use Rattle.legs.specs.declared.Leg.{Leg}
use Rattle.legs.specs.declared.Legs.{Legs}

abbrev pub no_leg : Leg
no_leg = record { curve = 0; received = true; first = 0; period = 0; count = 0; each = 0; last = 0 }

-- one flow
abbrev pub one_flow : ℕ → ℕ → ℕ → Leg
one_flow curve day amount = record { curve = curve; received = true; first = day; period = 0; count = 1; each = amount; last = amount }

abbrev pub directed : Bool → Leg → Leg
directed received l = record {
  curve = l.curve;
  received = received;
  first = l.first;
  period = l.period;
  count = l.count;
  each = l.each;
  last = l.last;
}

-- a leg by the table's sign: in, out, or none
unfoldable pub signed_leg : Option Direction → Leg → Leg
signed_leg None l = no_leg
signed_leg (Some In) l = directed true l
signed_leg (Some Out) l = directed false l

-- flow k of a leg
abbrev pub flow_of : Leg → ℕ → Flow
flow_of l k = record {
  curve = l.curve;
  day = l.first + k * l.period;
  received = l.received;
  amount = cond (eqb (k + 1) l.count) l.last l.each;
}

unfoldable pub leg_flows : Leg → List Flow
leg_flows l = table (flow_of l) 0 l.count

unfoldable pub legs_flows : Legs → List Flow
legs_flows l = leg_flows l.first ++ leg_flows l.second ++ leg_flows l.payments
