-- `exposure::gather` meets its contract. The invariant: the ladder holds the flows of the first i trades that stand on the curve.
use mathlib.Core.Path.{◌≡◌, refl, sym, ap, ◌∙◌}
use Prim.Native.Nat.{◌<◌}
use native.Mathlib.Omega.{arith}
use borrow.Author.Rules.{rules}
use Rattle.record.specs.Bytes.{fields_of}
use Rattle.trade.specs.Read.{trade_of}
use Rattle.flows.specs.Legs.{flows_of, breaks_flow_limit}
use Rattle.flows.specs.Limits.{SoundTrade}
use Rattle.book.specs.Parts.{trade_count}
use Rattle.book.proofs.Accepted.{Sound, sound, place-held}
use Rattle.exposure.specs.Exposures.{trade_at}
use Rattle.exposure.proofs.Collected.{Collected, collected-none, collected-next, collected-all, accepted-at}
use Rattle.exposure.proofs.gather.Goals as goal
use Rattle.exposure.proofs.gather.Goals.{After-trade_of, In-loop-i, Start}

-- at the entry: the book is sound
here : (s : Start) → Sound s.args.book.now s.requires.0.used
here s = sound s.args.book.now s.requires.0.used s.requires.0.accepted

pub trade_count-count-requires : goal.trade_count-count-requires
trade_count-count-requires c = let b = here (goal.at.trade_count-count-requires c).Start in omega (arith, b.blocks, b.lent)

pub loop-i-init : goal.loop-i-init
loop-i-init c = (refl, collected-none _ _ _)

-- in the loop: the position is one of the book's
at : (c : In-loop-i) → c.loop-i.i < trade_count c.args.book.now
at c = omega (arith, c.trade_count-count.ensures)

pub record_at-r-requires : goal.record_at-r-requires
record_at-r-requires c =
    let b = here (goal.at.record_at-r-requires c).Start in
    omega (arith, (place-held c.args.book.now c.requires.0.used b c.loop-i.i (at (goal.at.record_at-r-requires c).In-loop-i)).0, b.blocks, b.lent)

-- after the trade is read: it is the one at the position
module _ (c : After-trade_of) where
  trade-is : c.trade_of.result ≡ trade_at c.args.book.now c.loop-i.i
  trade-is =
      c.trade_of.ensures ∙ ap trade_of (c.fields_of.ensures ∙ ap fields_of c.record_at-r.ensures)

  trade-sound : SoundTrade (trade_at c.args.book.now c.loop-i.i)
  trade-sound = (accepted-at c.args.book.now c.requires.0.used (sound c.args.book.now c.requires.0.used c.requires.0.accepted) c.loop-i.i (omega (arith, c.trade_count-count.ensures))).trade

pub legs_of-legs-requires : goal.legs_of-legs-requires
legs_of-legs-requires c = rw (trade-is (goal.at.legs_of-legs-requires c).After-trade_of) (trade-sound (goal.at.legs_of-legs-requires c).After-trade_of)

pub push_legs-schedules-requires : goal.push_legs-schedules-requires
unfolding breaks_flow_limit
push_legs-schedules-requires c =
    let inv = c.loop-i.invariant in (
      omega (arith, inv.0, inv.1.few, at (goal.at.push_legs-schedules-requires c).In-loop-i, c.requires.1),
      record { reach = c.legs_of-legs.ensures.limits; within = rw (c.legs_of-legs.ensures.flows, trade-is (goal.at.push_legs-schedules-requires c).After-trade_of) (trade-sound (goal.at.push_legs-schedules-requires c).After-trade_of).within },
    )

pub loop-i-preserved : goal.loop-i-preserved
loop-i-preserved c =
    let inv = c.loop-i.invariant in (
      search rules,
      collected-next _ _ c.legs_of-legs.result inv.1 (c.legs_of-legs.ensures.flows ∙ ap flows_of (trade-is (goal.at.loop-i-preserved c).After-trade_of)) c.push_legs-schedules.ensures,
    )

pub returns : goal.returns
returns c =
    let s = c.args.book.now in
    let inv = c.loop-i.invariant in
    let e : c.loop-i.i ≡ trade_count s = omega (arith, c.trade_count-count.ensures) in
    let all : Collected s c.args.curve c.loop-i.ladder c.loop-i.schedules (trade_count s) = rw (sym e) inv.1 in
    record { flows = all.flows; limits = collected-all s c.requires.0.used (here (goal.at.returns c).Start) c.args.curve c.loop-i.ladder c.loop-i.schedules (omega (arith, inv.0, c.requires.1)) all }
