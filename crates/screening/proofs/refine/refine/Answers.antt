-- `screening::refine::refine` meets its contract: the scenarios passed are refined.
use mathlib.Core.Path.{◌≡◌, sym, ◌∙◌}
use Prim.Native.Nat.{◌<◌}
use borrow.Author.Rules.{rules}
use native.Mathlib.Omega.{arith}
use lib.IntN.{pos}
use lib.ListN.{get_or}
use mir.Syntax.{w64}
use mir.Val.{SFits}
use Rattle.laws.proofs.Signed.{read, back}
use Rattle.curve.specs.Scenarios.{scenario_count}
use Rattle.curve.proofs.Scenarios.{scenario-limits}
use Rattle.estimate.proofs.ListedDays.{rising-listed}
use Rattle.estimate.proofs.ScenarioValues.{scenario-read}
use Rattle.screening.proofs.Refining.{refined-kept, refining-next, refining-left, refined-screened}
use Rattle.screening.proofs.refine.refine.Goals as goal
use Rattle.screening.proofs.refine.refine.Goals.{then-values-at, else-values-at}

pub fill_ends-requires : goal.fill_ends-requires
fill_ends-requires c =
    let p = c.requires in
    (p.0, rising-listed _ _ p.2, p.0.most)

pub value_in-limit-requires : goal.value_in-limit-requires
value_in-limit-requires c =
    let p = c.requires in
    (p.0, rw c.scenario.ensures (scenario-limits _ _ (omega (arith, c.least_of-least.ensures.within, c.scenario_count-n.ensures)) p.1), c.fill_ends.ensures, p.2)

pub value_in-requires : goal.value_in-requires
value_in-requires c =
    let p = c.requires in
    (p.0, rw c.scenario-then-values-at.ensures (scenario-limits _ _ (omega (arith, c.loop-s-test.true, c.scenario_count-n.ensures)) p.1), c.fill_ends.ensures, p.2)

pub loop-s-preserved : goal.loop-s-preserved
loop-s-preserved c =
    let x = c.args.components in
    let nets = c.args.nets.now in
    let v = get_or c.loop-s.values c.loop-s.s (pos 0) in
    let limit = read c.value_in-limit.result in
    let f : SFits w64 v = search rules in
    elim c.if-values-at.branch [
      | then-values-at w ↦ (let found = scenario-read c.args.curve x nets _ c.loop-s.s c.requires.2 _ _ w.scenario-then-values-at.ensures w.value_in.ensures in
          rw w.values-is (refining-next _ _ _ limit _ _ _ c.loop-s.invariant (omega (arith, c.requires.3, c.loop-s-test.true, c.scenario_count-n.ensures)) _ (found ∙ sym (refined-kept c.args.curve x nets limit c.loop-s.s v (rw (back v f.sfits) at w.if-values-at.true)))))
      | else-values-at w ↦ rw w.values-is (refining-left _ _ _ limit _ _ _ c.loop-s.invariant (rw (back v f.sfits) at w.if-values-at.false))
    ]

pub returns-clause-each : goal.returns-clause-each
returns-clause-each c =
    let n = c.scenario_count-n.ensures in
    let e : c.loop-s.s ≡ scenario_count c.args.components = omega arith in
    let m : c.least_of-least.result < scenario_count c.args.components = omega (arith, c.least_of-least.ensures.within) in
    let found = scenario-read c.args.curve c.args.components _ _ c.least_of-least.result c.requires.2 _ _ c.scenario.ensures c.value_in-limit.ensures in
    refined-screened _ _ _ _ _ _ m found c.requires.4 _ (rw e at c.loop-s.invariant)
