-- `curve::Curve::stressed` meets its contract.
use native.Mathlib.Omega.{arith}
use Rattle.curve.proofs.Stress.{partly-next, partly-all}
use Rattle.curve.proofs.Curve.stressed.Goals as goal

pub loop-i-preserved : goal.loop-i-preserved
loop-i-preserved c =
    let p = c.requires.0 in
    partly-next _ _ c.loop-i.invariant (omega (arith, p.places, p.most)) c.stressed.ensures

pub returns : goal.returns
returns c = partly-all _ _ c.loop-i.i c.loop-i.invariant (omega arith)
