-- `curve::Component::coefficient` meets its contract.
use borrow.Author.Rules.{rules}
use native.Mathlib.Omega.{arith}
use mathlib.Core.Path.{sym}
use Rattle.laws.proofs.Signed.{read_is}
use Rattle.curve.proofs.Coefficients.{coefficient-none, coefficient-fits, code-coefficient}
use Rattle.curve.proofs.Component.coefficient.Goals as goal

pub returns-then-self-eq0 : goal.returns-then-self-eq0
returns-then-self-eq0 c = sym (coefficient-none _ _ c.if-self-eq0.true)

pub returns : goal.returns
returns c =
    let h = c.requires in
    rw (code-coefficient _ _ h (search rules)) (read_is _ (omega (arith, coefficient-fits _ _ h)))
