-- `curve::Node::stressed` meets its contract.
use native.Mathlib.Omega.{arith}
use mathlib.Core.Path.{◌≡◌, ◌∙◌}
use lib.IntN.{pos, nat_abs}
use Rattle.laws.proofs.Signed.{read, read_is}
use Rattle.curve.specs.Stress.{shifted, clamped}
use Rattle.curve.proofs.Shifting.{shifted-size}
use Rattle.curve.proofs.Stress.{clamped-is, clamped-most}
use Rattle.curve.proofs.Node.stressed.Goals as goal

pub returns : goal.returns
returns c =
    let n = c.args.self in
    let z = shifted c.args.s n in
    let e : c.clamp-rate.result ≡ pos (clamped z) =
    c.clamp-rate.ensures.value ∙ rw (c.shift.ensures, read_is z (omega (arith, shifted-size _ _ c.requires))) (clamped-is z) in
    let f : nat_abs (read c.clamp-rate.result) ≡ clamped z = rw (e, read_is (pos (clamped z)) (omega (arith, clamped-most z))) in
    let h = c.requires.0 in
    rw (f, read_is n.first (omega (arith, h.first)), read_is n.second (omega (arith, h.second)), read_is n.third (omega (arith, h.third)))
