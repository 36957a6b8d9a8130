-- `fine::value::fine_value_in` meets its contract: what both ends agree on is the present value (`FineValues.antt`).
use mathlib.Core.Path.{◌≡◌, ◌∙◌}
use Prim.Native.Nat.{◌*◌}
use native.Mathlib.Omega.{arith}
use Rattle.decimal.specs.HalfUp.{half_up}
use Rattle.logarithm.specs.Logarithms.{fine_whole}
use Rattle.fine.proofs.FineValues.{agreed}
use Rattle.fine.proofs.value.fine_value_in.Goals as goal

pub returns-then-value-other-clause-worth : goal.returns-then-value-other-clause-worth
returns-then-value-other-clause-worth c rate day n =
    let a = c.args in
    let same : half_up (a.amount * a.b.low) fine_whole ≡ half_up (a.amount * a.b.high) fine_whole =
    omega (arith, c.rounded-value.ensures, c.rounded-other.ensures, c.if-value-other.true) in
    c.rounded-value.ensures ∙ agreed a.amount rate day a.b n same
