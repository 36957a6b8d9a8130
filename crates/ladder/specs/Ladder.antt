-- The cash flow ladder of a curve as the engine keeps it: legs, as schedules of six numbers each, so that the amounts of a trade's flows are worked
-- out once and not once a scenario.
use Rattle.std.specs.Prelude.{cond, not, ℕ, ◌*◌, ◌+◌, ◌≤◌, ◌<◌, eqb, length, get_or}
use mathlib.Core.List.{List, [], ◌∷◌, flat_map}
use Rattle.laws.specs.Walk.{table}
use Rattle.decimal.specs.Product.{unit}
use Rattle.discount.specs.declared.Flow.{Flow}
use Rattle.legs.specs.declared.Leg.{Leg}
use Rattle.legs.specs.Runs.{leg_flows}
use Rattle.legs.specs.Limits.{LegLimits}
use Rattle.ladder.specs.Totals.{most_flows}

-- the six numbers of a leg
abbrev pub schedule_of : Leg → List ℕ
schedule_of leg = leg.first ∷ leg.period ∷ leg.count ∷ leg.each ∷ leg.last ∷ cond leg.received 1 0 ∷ []

-- how many payments schedule i has
abbrev pub payments : List ℕ → ℕ → ℕ
payments ladder i = get_or ladder (i * 6 + 2) 0

-- schedule i as a leg on a curve
abbrev pub leg_at : ℕ → List ℕ → ℕ → Leg
leg_at curve ladder i =
    record {
      curve = curve;
      received = not (eqb (get_or ladder (i * 6 + 5) 0) 0);
      first = get_or ladder (i * 6) 0;
      period = get_or ladder (i * 6 + 1) 0;
      count = payments ladder i;
      each = get_or ladder (i * 6 + 3) 0;
      last = get_or ladder (i * 6 + 4) 0;
    }

-- the flows of the first schedules
unfoldable pub ladder_flows : ℕ → List ℕ → ℕ → List Flow
ladder_flows curve ladder schedules = flat_map leg_flows (table (leg_at curve ladder) 0 schedules)

-- the leg of a schedule: it has payments, none above the largest amount
pub record ScheduleLimits (l : Leg) : Type 0 where
  pub some : 1 ≤ l.count
  pub days : LegLimits l
  pub each : 2 ≤ l.count → l.each ≤ unit
  pub last : l.last ≤ unit

-- a ladder in its limits: its flows are few enough that no sum of theirs leaves 64 bits
pub record LadderLimits (curve : ℕ) (ladder : List ℕ) (schedules : ℕ) : Type 0 where
  pub places : schedules * 6 ≤ length ladder
  pub each : (i : ℕ) → i < schedules → ScheduleLimits (leg_at curve ladder i)
  pub few : length (ladder_flows curve ladder schedules) ≤ most_flows
