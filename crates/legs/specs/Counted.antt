-- The flows of a leg in a window of days, as the code has them: a leg again.
use Rattle.std.specs.Prelude.{ℕ, ◌+◌, ◌-◌, ◌*◌, ◌/◌, Bool, cond, eqb, ltb}
use Rattle.legs.specs.declared.Leg.{Leg}
use Rattle.legs.specs.Runs.{no_leg}

-- how many of a leg's flows fall on days up to one, of which its first is one
unfoldable pub paid_by : ℕ → Leg → ℕ
paid_by day l =
    let periods = (day - l.first) / l.period in
    cond (eqb l.period 0) l.count (cond (ltb periods l.count) (periods + 1) l.count)

-- the flows behind the first `paid`
abbrev pub rest_leg : ℕ → Leg → Leg
rest_leg paid l = record {
  curve = l.curve;
  received = l.received;
  first = l.first + paid * l.period;
  period = l.period;
  count = l.count - paid;
  each = l.each;
  last = l.last;
}

-- the first `paid` flows: the last amount only where the last flow is one of them
abbrev pub start_leg : ℕ → Leg → Leg
start_leg paid l = record {
  curve = l.curve;
  received = l.received;
  first = l.first;
  period = l.period;
  count = paid;
  each = l.each;
  last = cond (eqb paid l.count) l.last l.each;
}

-- the flows after a day
unfoldable pub leg_after : ℕ → Leg → Leg
leg_after day l = cond (ltb day l.first) l (cond (ltb (paid_by day l) l.count) (rest_leg (paid_by day l) l) no_leg)

-- the flows up to a day
unfoldable pub leg_up_to : ℕ → Leg → Leg
leg_up_to day l = cond (ltb day l.first) no_leg (start_leg (paid_by day l) l)

-- of a repo: after the term, or in it
abbrev pub counted_leg : Bool → ℕ → ℕ → Leg → Leg
counted_leg settled valueday1 valueday2 l = cond settled (leg_after valueday2 l) (leg_up_to valueday2 (leg_after valueday1 l))
