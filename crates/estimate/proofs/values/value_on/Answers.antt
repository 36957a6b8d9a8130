-- `estimate::values::value_on` meets its contract: from node to node, what is valued and what is left are together all.
use mathlib.Core.Path.{◌≡◌}
use native.Mathlib.Omega.{arith}
use Rattle.estimate.proofs.CurveLines.{ahead}
use Rattle.estimate.proofs.CurveValues.{ready-first, held_first, ready-next, held_next, ready-last, held_all, value_read}
use Rattle.estimate.proofs.values.value_on.Goals as goal

pub along-p-requires : goal.along-p-requires
along-p-requires c =
    let p = c.requires in
    ready-first _ p.0 _ _ _ p.2 p.1 _ c.level.ensures

pub loop-i-init : goal.loop-i-init
loop-i-init c =
    let p = c.requires in
    held_first _ p.0 _ _ _ p.2 p.1 _ c.level.ensures _ c.along-p.ensures

pub between-p-requires : goal.between-p-requires
between-p-requires c =
    let p = c.requires in
    let h = c.loop-i.invariant in
    (ahead _ p.0 _ h.some c.loop-i-test.true, ready-next _ p.0 _ _ _ p.2 p.1 _ _ h c.loop-i-test.true)

pub loop-i-preserved : goal.loop-i-preserved
loop-i-preserved c =
    let p = c.requires in
    held_next _ p.0 _ _ _ p.2 p.1 _ _ c.loop-i.invariant c.loop-i-test.true _ c.between-p.ensures

pub along-requires : goal.along-requires
along-requires c =
    let p = c.requires in
    let e : c.loop-i.i ≡ c.args.curve.count = omega (arith, c.loop-i.invariant.most) in
    ready-last _ p.0 _ _ _ p.2 p.1 _ (rw e at c.loop-i.invariant) _ c.level-last.ensures

pub returns : goal.returns
returns c =
    let p = c.requires in
    let e : c.loop-i.i ≡ c.args.curve.count = omega (arith, c.loop-i.invariant.most) in
    value_read _ _ _ p.2 _ (held_all _ p.0 _ _ _ p.2 p.1 _ (rw e at c.loop-i.invariant) _ c.level-last.ensures _ c.along.ensures)
