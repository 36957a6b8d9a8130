-- A ladder with a leg more: what the code writes is the leg's schedule, and the ladder's flows are then the leg's too.
use mathlib.Core.Path.{◌≡◌, refl}
use mathlib.Core.Bool.{Bool, true, false, cond}
use mathlib.Core.List.{List, [], ◌∷◌, ◌++◌}
use Prim.Native.Nat.{ℕ, ◌+◌, ◌-◌, ◌*◌, ◌≤◌}
use native.Mathlib.Omega.{arith}
use lib.ListN.{length, take, drop}
use mir.Val.{bool_byte}
use Rattle.layout.proofs.Bytes.{put-lent}
use Rattle.legs.specs.declared.Leg.{Leg}
use Rattle.exposure.specs.Schedules.{stands_on, with_leg}

-- a bool's number
bit : (b : Bool) → bool_byte b ≡ cond b 1 0
bit true = refl
bit false = refl

-- where a leg stands on the curve, its six numbers are written over what stood there
pub push-one : (curve : ℕ) (l : Leg) (ladder : List ℕ) (n : ℕ) → n * 6 + 6 ≤ length ladder → stands_on curve l ≡ true
    → take (n * 6) ladder ++ ((l.first ∷ l.period ∷ l.count ∷ l.each ∷ l.last ∷ bool_byte l.received ∷ []) ++ drop (n * 6 + 6 - n * 6) (drop (n * 6) ladder)) ≡ with_leg curve l ladder n
unfolding with_leg
push-one curve l ladder n room e =
    let six : n * 6 + 6 - n * 6 ≡ 6 = omega arith in
    rw (e, six, ← bit l.received) (put-lent ladder (n * 6) 6 (l.first ∷ l.period ∷ l.count ∷ l.each ∷ l.last ∷ bool_byte l.received ∷ []) room refl)
