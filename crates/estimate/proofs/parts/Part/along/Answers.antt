-- `estimate::parts::Part::along` meets its contract: what is valued and what is left are together all.
use mathlib.Core.Path.{◌≡◌, ◌∙◌}
use Prim.Native.Nat.{ℕ, ◌+◌, ◌^◌, ◌<◌}
use native.Mathlib.Omega.{arith}
use borrow.Author.Rules.{rules}
use lib.IntN.{ℤ, pos, nat_abs, ◌+ℤ◌}
use lib.ListN.{get_or}
use mir.Syntax.{w64}
use mir.Val.{SFits}
use Rattle.laws.proofs.Signed.{cast, read, read_is, fits, back}
use Rattle.netting.specs.Netting.{worth, cheap_on}
use Rattle.estimate.specs.Lines.{rate_on}
use Rattle.estimate.specs.Values.{most_size}
use Rattle.estimate.proofs.LineDays.{between-at, going_end, going-day, amount-most, worth-read, sum-size, going_next}
use Rattle.estimate.proofs.parts.Part.along.Goals as goal
use Rattle.estimate.proofs.parts.Part.along.Goals.{After-day_value-value, After-from-at}

-- a turn's day and its amount
module _ (c : After-from-at) where
  abbrev at : ℕ
  at = c.args.self.done + c.loop-day.day-index

  within : at < c.args.end
  within = omega (arith, c.requires.from)

  day-is : c.from-at.result ≡ get_or c.args.days.now at 0
  day-is = c.from-at.ensures ∙ between-at c.args.self.done c.args.end c.args.days.now c.loop-day.day-index (omega arith)

  abbrev net : ℤ
  net = get_or c.args.nets.now (get_or c.args.days.now at 0) (pos 0)

pub day_value-value-requires : goal.day_value-value-requires
day_value-value-requires c =
    let t = (goal.at.day_value-value-requires c).After-from-at in
    let h = c.loop-day.invariant in
    let f : SFits w64 (get_or c.args.nets.now c.from-at.result (pos 0)) = search rules in
    let g : SFits w64 (net t) = rw (day-is t) at f in
    rw (day-is t, back (net t) g.sfits) ((going-day _ _ _ _ _ _ h (within t)).1, amount-most _ _ _ _ _ _ h (within t))

-- what the day's amount is worth, and the sum with it, read back from their bits
module _ (c : After-day_value-value) where
  abbrev before : After-from-at
  before = (goal.at.overflow_add-value c).After-from-at

  abbrev sum : ℤ
  sum = cast c.loop-day.value-bits +ℤ worth (cheap_on (rate_on c.args.line) (get_or c.args.days.now (at before) 0)) (net before)

  worth-is : read c.day_value-value.result ≡ worth (cheap_on (rate_on c.args.line) (get_or c.args.days.now (at before) 0)) (net before)
  worth-is =
      let f : SFits w64 (get_or c.args.nets.now c.from-at.result (pos 0)) = search rules in
      let g : SFits w64 (net before) = rw (day-is before) at f in
      worth-read _ _ _ _ _ _ c.loop-day.invariant (within before) _ (rw (day-is before) at c.day_value-value.ensures) g.sfits

  sum-most : nat_abs sum < 2 ^ 63
  unfolding most_size
  sum-most = omega (arith, sum-size _ _ _ _ _ _ c.loop-day.invariant (within before))

pub overflow_add-value : goal.overflow_add-value
overflow_add-value c = rw (worth-is c) (fits (sum c) (sum-most c))

pub loop-day-preserved : goal.loop-day-preserved
loop-day-preserved c =
    let e : c.args.self.done + (c.loop-day.day-index + 1) ≡ at (before c) + 1 = omega arith in
    rw (worth-is c, read_is (sum c) (sum-most c), e) (going_next _ _ _ _ _ _ c.loop-day.invariant (within (before c)))

pub returns : goal.returns
returns c =
    let e : c.args.self.done + c.loop-day.day-index ≡ c.args.end = omega arith in
    going_end _ _ _ _ _ _ (rw e at c.loop-day.invariant) (omega arith)
