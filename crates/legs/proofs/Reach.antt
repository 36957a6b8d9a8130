-- Legs that keep their limits: few flows, on days in reach.
use mathlib.Core.Path.{◌≡◌, refl, ap, ◌∙◌}
use mathlib.Core.Bool.{Bool, true, false, cond}
use Prim.Native.Nat.{ℕ, ◌+◌, ◌-◌, ◌*◌, ◌≤◌, ◌<◌}
use native.Mathlib.Nat.{add-mul, mul-le-mul_right}
use native.Mathlib.Omega.{arith}
use lib.Dec.{ltb}
use Rattle.std.proofs.Common.{Option, Some, None}
use Rattle.legs.specs.declared.signs.Direction.{Direction}
use Rattle.legs.specs.declared.signs.Direction.TheVariants.{In, Out}
use borrow.Author.Tests.{ltb-true}
use Rattle.ground.specs.Limits.{last_day}
use Rattle.legs.specs.declared.Leg.{Leg}
use Rattle.legs.specs.Runs.{one_flow, no_leg, signed_leg}
use Rattle.legs.specs.Counted.{paid_by, rest_leg, start_leg, leg_after, leg_up_to, counted_leg}
use Rattle.legs.specs.Limits.{LegLimits}
use Rattle.legs.proofs.Counted.{paid-most}

pub none-reach : LegLimits no_leg
none-reach = record { few = omega arith; reach = omega arith }

pub one-reach : (curve day amount : ℕ) → day ≤ last_day → LegLimits (one_flow curve day amount)
one-reach curve day amount h = record { few = omega arith; reach = omega arith }

pub signed-reach : (sign : Option Direction) (l : Leg) → LegLimits l → LegLimits (signed_leg sign l)
unfolding signed_leg
signed-reach None l h = none-reach
signed-reach (Some In) l h = record { few = h.few; reach = h.reach }
signed-reach (Some Out) l h = record { few = h.few; reach = h.reach }

-- ---- in a window of days

after-reach : (day : ℕ) (l : Leg) → LegLimits l → LegLimits (leg_after day l)
unfolding leg_after
after-reach day l h = go (ltb day l.first) (ltb (paid_by day l) l.count) refl
  where
    go : (a b : Bool) → ltb (paid_by day l) l.count ≡ b → LegLimits (cond a l (cond b (rest_leg (paid_by day l) l) no_leg))
    go true b e = h
    go false true e =
        let p = paid_by day l in
        let n = l.count - p - 1 in
        let some = ltb-true p l.count e in
        let spans : (l.count - 1) * l.period ≡ p * l.period + n * l.period = ap (λ (k : ℕ). k * l.period) (omega arith) ∙ add-mul p n l.period in
        record { few = omega (arith, h.few); reach = omega (arith, h.reach, spans) }
    go false false e = none-reach

up-to-reach : (day : ℕ) (l : Leg) → LegLimits l → LegLimits (leg_up_to day l)
unfolding leg_up_to
up-to-reach day l h = go (ltb day l.first)
  where
    go : (a : Bool) → LegLimits (cond a no_leg (start_leg (paid_by day l) l))
    go true = none-reach
    go false =
        let p = paid_by day l in
        let most = paid-most day l in
        record { few = omega (arith, h.few); reach = omega (arith, h.reach, mul-le-mul_right {m = p - 1} {n = l.count - 1} l.period (omega arith)) }

pub counted-reach : (settled : Bool) (valueday1 valueday2 : ℕ) (l : Leg) → LegLimits l → LegLimits (counted_leg settled valueday1 valueday2 l)
counted-reach true valueday1 valueday2 l h = after-reach valueday2 l h
counted-reach false valueday1 valueday2 l h = up-to-reach valueday2 (leg_after valueday1 l) (after-reach valueday1 l h)

-- the days from a leg's first flow to flow k
pub span : (l : Leg) (k : ℕ) → LegLimits l → k < l.count → l.first + k * l.period ≤ last_day
span l k h g = omega (arith, h.reach, mul-le-mul_right {m = k} {n = l.count - 1} l.period (omega arith))
