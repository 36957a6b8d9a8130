-- `curve::Curve::rate_at` meets its contract.
use mathlib.Core.Path.{sym, ◌∙◌}
use native.Mathlib.Omega.{arith}
use Rattle.curve.proofs.Search.{later-node, before-all, passed_first, passed-between, passed-interpolated, passed-next, passed-all}
use Rattle.curve.proofs.Curve.rate_at.Goals as goal

pub returns-then-t-a : goal.returns-then-t-a
returns-then-t-a c = sym (before-all _ _ c.requires c.if-t-a.true)

pub loop-b-init : goal.loop-b-init
loop-b-init c = passed_first _ _ c.requires c.if-t-a.false

pub interpolate-requires : goal.interpolate-requires
interpolate-requires c =
    let e = later-node _ c.args.t c.requires c.loop-b.b-index (omega arith) in
    rw e (passed-between _ _ c.requires _ _ c.loop-b.invariant (omega arith) (rw e at c.if-t-b.true))

pub returns-then-t-b : goal.returns-then-t-b
returns-then-t-b c =
    let e = later-node _ c.args.t c.requires c.loop-b.b-index (omega arith) in
    c.interpolate.ensures
    ∙ rw e (sym (passed-interpolated _ _ c.requires _ _ c.loop-b.invariant (omega arith) (rw e at c.if-t-b.true)))

pub loop-b-preserved : goal.loop-b-preserved
loop-b-preserved c =
    let e = later-node _ c.args.t c.requires c.loop-b.b-index (omega arith) in
    rw e (passed-next _ _ c.requires _ _ c.loop-b.invariant (omega arith) (rw e at c.if-t-b.false))

pub returns : goal.returns
returns c =
    sym (passed-all _ _ c.requires _ _ c.loop-b.invariant (omega arith))
