-- `curve::Components::scenario` meets its contract.
use native.Mathlib.Omega.{arith}
use mathlib.Core.Path.{◌≡◌, sym}
use Prim.Native.Nat.{◌/◌, ◌%◌}
use Rattle.laws.proofs.Signed.{read, read_is}
use Rattle.curve.specs.Scenarios.{coefficient}
use Rattle.curve.proofs.Coefficients.{coefficient-fits}
use Rattle.curve.proofs.Scenarios.{fast, slow, first-in, second-in, third-in, scenario-entry}
use Rattle.curve.proofs.Components.scenario.Goals as goal

pub coefficient-first-requires : goal.coefficient-first-requires
coefficient-first-requires c =
    rw (c.coefficient_count.ensures, c.coefficient_count-fast.ensures) (c.requires.0.first, first-in c.args.self _ c.requires.1)

pub returns : goal.returns
returns c =
    let p = c.requires in
    let x = c.args.self in
    let s = c.args.s in
    let e : read c.coefficient-first.result ≡ coefficient x.first (s / slow x) =
    rw (c.coefficient-first.ensures, c.coefficient_count.ensures, c.coefficient_count-fast.ensures) (read_is _ (omega (arith, coefficient-fits _ _ (p.0.first, first-in x _ p.1)))) in
    let f : read c.coefficient-second.result ≡ coefficient x.second (s % slow x / fast x) =
    rw (c.coefficient-second.ensures, c.coefficient_count.ensures, c.coefficient_count-fast.ensures) (read_is _ (omega (arith, coefficient-fits _ _ (p.0.second, second-in x _ p.1)))) in
    let g : read c.coefficient-third.result ≡ coefficient x.third (s % slow x % fast x) =
    rw (c.coefficient-third.ensures, c.coefficient_count.ensures, c.coefficient_count-fast.ensures) (read_is _ (omega (arith, coefficient-fits _ _ (p.0.third, third-in x _ p.1)))) in
    rw (e, f, g) (sym (scenario-entry x s p.1))
