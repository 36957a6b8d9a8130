-- A curve's ladder with a leg of a trade more.
use Rattle.std.specs.Prelude.{Bool, ◌&&◌, not, cond, List, ℕ, ◌+◌, ◌*◌, eqb}
use Rattle.layout.specs.Bytes.{put}
use Rattle.legs.specs.declared.Leg.{Leg}
use Rattle.ladder.specs.Ladder.{schedule_of}

-- a leg that has flows on the curve
abbrev pub stands_on : ℕ → Leg → Bool
stands_on curve leg = eqb leg.curve curve && not (eqb leg.count 0)

-- the ladder of so many schedules with a leg more, where it stands on the curve; and how many schedules it then has
unfoldable pub with_leg : ℕ → Leg → List ℕ → ℕ → List ℕ
with_leg curve leg ladder schedules = cond (stands_on curve leg) (put ladder (schedules * 6) (schedule_of leg)) ladder

unfoldable pub count_with_leg : ℕ → Leg → ℕ → ℕ
count_with_leg curve leg schedules = cond (stands_on curve leg) (schedules + 1) schedules
