-- Legs by their signs, and with their amounts capped.
use mathlib.Core.Path.{◌≡◌, refl, sym, ap, ◌∙◌}
use mathlib.Core.Bool.{Bool, true, false, cond}
use Prim.Native.Nat.{ℕ, ◌+◌, ◌≤◌}
use native.Mathlib.Omega.{arith}
use lib.Dec.{eqb, ltb}
use Rattle.std.proofs.Common.{Option, Some, None}
use Rattle.legs.specs.declared.signs.Direction.{Direction}
use Rattle.legs.specs.declared.signs.Direction.TheVariants.{In, Out}
use borrow.Author.Tests.{le-leb}
use Rattle.decimal.specs.Product.{unit}
use Rattle.decimal.specs.HalfUp.{scaled_to}
use Rattle.std.specs.Prelude.{unwrap_or}
use Rattle.legs.specs.declared.Leg.{Leg}
use Rattle.legs.specs.Runs.{no_leg, signed_leg}
use Rattle.flows.specs.Capped.{capped, capped_leg}
use Rattle.legs.specs.Counted.{paid_by, rest_leg, start_leg, leg_after, leg_up_to, counted_leg}

pub capped_small : (n : ℕ) → n ≤ unit → capped n ≡ n
unfolding capped
capped_small n h = rw (le-leb n unit h)

-- what `decimal` answers, as a capped amount
pub capped-scaled : (n : ℕ) → unwrap_or (scaled_to n) (unit + 1) ≡ capped n
unfolding scaled_to capped
capped-scaled n = grind arith

-- ---- by the sign

pub capped-none : capped_leg no_leg ≡ no_leg
unfolding capped unit
capped-none = refl

pub signed-capped : (sign : Option Direction) (l : Leg) → signed_leg sign (capped_leg l) ≡ capped_leg (signed_leg sign l)
unfolding signed_leg
signed-capped None l = sym capped-none
signed-capped (Some In) l = refl
signed-capped (Some Out) l = refl

-- ---- and with the payments that count

after-capped : (day : ℕ) (l : Leg) → leg_after day (capped_leg l) ≡ capped_leg (leg_after day l)
unfolding leg_after paid_by
after-capped day l = go (ltb day l.first) (ltb (paid_by day l) l.count)
  where
    go : (a b : Bool) → cond a (capped_leg l) (cond b (rest_leg (paid_by day l) (capped_leg l)) no_leg) ≡ capped_leg (cond a l (cond b (rest_leg (paid_by day l) l) no_leg))
    go true b = refl
    go false true = refl
    go false false = sym capped-none

up-to-capped : (day : ℕ) (l : Leg) → leg_up_to day (capped_leg l) ≡ capped_leg (leg_up_to day l)
unfolding leg_up_to paid_by
up-to-capped day l = go (ltb day l.first)
  where
    last : (t : Bool) → cond t (capped l.last) (capped l.each) ≡ capped (cond t l.last l.each)
    last true = refl
    last false = refl

    go : (a : Bool) → cond a no_leg (start_leg (paid_by day l) (capped_leg l)) ≡ capped_leg (cond a no_leg (start_leg (paid_by day l) l))
    go true = sym capped-none
    go false = rw (last (eqb (paid_by day l) l.count))

pub counted-capped : (settled : Bool) (valueday1 valueday2 : ℕ) (l : Leg) → counted_leg settled valueday1 valueday2 (capped_leg l) ≡ capped_leg (counted_leg settled valueday1 valueday2 l)
counted-capped true valueday1 valueday2 l = after-capped valueday2 l
counted-capped false valueday1 valueday2 l = ap (leg_up_to valueday2) (after-capped valueday1 l) ∙ up-to-capped valueday2 (leg_after valueday1 l)
