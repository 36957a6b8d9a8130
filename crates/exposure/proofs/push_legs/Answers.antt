-- `exposure::push_legs` meets its contract, by that of `push_leg`, three times.
use native.Mathlib.Omega.{arith}
use Rattle.exposure.proofs.Growing.{room-left, grown}
use Rattle.exposure.proofs.push_legs.Goals as goal

pub push_leg-two-requires : goal.push_leg-two-requires
push_leg-two-requires c =
    let a = c.args in
    room-left a.curve a.legs.first a.ladder.now a.schedules 6 c.push_leg-one.ensures.value c.push_leg-one.ensures.ladder_after (omega arith)

pub push_leg-requires : goal.push_leg-requires
push_leg-requires c =
    let a = c.args in
    let left = room-left a.curve a.legs.first a.ladder.now a.schedules 12 c.push_leg-one.ensures.value c.push_leg-one.ensures.ladder_after (omega arith) in
    room-left a.curve a.legs.second c.push_leg-one.new.ladder c.push_leg-one.result 6 c.push_leg-two.ensures.value c.push_leg-two.ensures.ladder_after (omega (arith, left))

pub returns : goal.returns
returns c =
    let a = c.args in
    grown a.curve a.legs a.ladder.now a.schedules c.requires.0 c.requires.1
    c.push_leg-one.ensures.value c.push_leg-one.ensures.ladder_after c.push_leg-two.ensures.value c.push_leg-two.ensures.ladder_after c.push_leg.ensures.value c.push_leg.ensures.ladder_after
