-- `margin::choice::worst_kept` meets its contract: of the scenarios passed that are kept, the worst is held.
use mathlib.Core.Path.{◌≡◌, refl, ap}
use mathlib.Core.List.{List}
use Prim.Native.Nat.{ℕ, ◌<◌}
use native.Mathlib.Omega.{arith}
use lib.IntN.{ℤ, pos}
use lib.ListN.{get_or}
use Rattle.std.proofs.Common.{rules, tests}
use Rattle.std.proofs.lemmas.Int.{ints}
use Rattle.laws.proofs.Signed.{back}
use Rattle.curve.specs.Scenarios.{scenario_count}
use Rattle.margin.specs.declared.losses.Loss.{Loss}
use Rattle.margin.specs.Choice.{FirstKept, WorstKept}
use Rattle.margin.proofs.Stressing.{loss-read}
use Rattle.margin.proofs.Discarding.{kept-first, kept_same, kept_next}
use Rattle.margin.proofs.choice.worst_kept.Goals as goal
use Rattle.margin.proofs.choice.worst_kept.Goals.{then-values-s, else-values-s, After-first_kept-first, After-scenario_count-count, At-loop-s, In-loop-s, Start}

-- the first that is kept, at the limit itself
first : (c : After-first_kept-first) → FirstKept c.args.values.now c.args.limit c.first_kept-first.result
first c =
    rw (back c.args.limit c.ranges.limit.sfits) at c.first_kept-first.ensures.0

-- in a turn, s is a scenario
within : (c : In-loop-s) → c.loop-s.s < scenario_count c.args.valued.position.components
within c = omega (arith, c.loop-s-test.true, c.scenario_count-count.ensures)

pub loop-s-init : goal.loop-s-init
loop-s-init c =
    let k = c.first_kept-first.result in
    let loss = loss-read _ _ c.requires.0.limits k _ c.loss_of.ensures in
    rw (back c.args.limit c.ranges.limit.sfits)
    (kept-first _ _ _ k (first (goal.at.loop-s-init c).After-first_kept-first) _ (ap (λ (z : ℤ). record { amount = z; scenario = k }) loss), omega (arith, c.first_kept-first.ensures.1, c.scenario_count-count.ensures))

pub loop-s-preserved : goal.loop-s-preserved
loop-s-preserved c =
    let values = c.args.values.now in
    let v = get_or values c.loop-s.s (pos 0) in
    let limit = c.args.limit in
    let fl = c.ranges.limit.sfits in
    let h = rw (back limit fl) at c.loop-s.invariant.0 in
    rw (back limit fl) (
      elim c.if-values-s.branch [
        | then-values-s w ↦ rw (w.worst-is, w.worse_with-worst.ensures) (kept_next _ values limit _ _ h _ refl)
        | else-values-s w ↦ rw w.worst-is (kept_same _ values limit _ _ h (search (rules, tests, ints)))
      ],
      omega (arith, within (goal.at.loop-s-preserved c).In-loop-s),
    )

-- where all are passed
passed : (loss : ℕ → ℤ) (values : List ℤ) (limit : ℤ) (w : Loss) (s n : ℕ) → s ≡ n → WorstKept loss values limit s w → WorstKept loss values limit n w
passed loss values limit w s n e h = rw e at h

pub returns : goal.returns
returns c =
    let e : c.loop-s.s ≡ scenario_count c.args.valued.position.components = omega (arith, c.loop-s.invariant.1, c.loop-s-test.false, c.scenario_count-count.ensures) in
    passed _ _ _ _ _ _ e (rw (back c.args.limit c.ranges.limit.sfits) at c.loop-s.invariant.0)
