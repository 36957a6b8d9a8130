-- `flows::trade_legs::repo_payments` meets its contract.
use mathlib.Core.Path.{◌∙◌}
use native.Mathlib.Omega.{arith}
use Rattle.flows.specs.Legs.{payments_of}
use Rattle.legs.specs.Runs.{signed_leg}
use Rattle.flows.proofs.Capped.{capped-none, counted-capped}
use Rattle.flows.proofs.Counted.{all-behind}
use Rattle.flows.proofs.Reach.{payment-reach}
use Rattle.flows.proofs.trade_legs.repo_payments.Goals as goal

pub returns-then-t-first : goal.returns-then-t-first
returns-then-t-first c =
    let a = c.args in
    let t = a.t in
    c.no_leg.ensures
    ∙ rw (c.if-not-settled.true, all-behind a.sign t.security t.valueday1 t.valueday2 (omega (arith, c.if-t-first.true, c.first_and_nominal-first.ensures)), capped-none)

pub counted_leg-requires : goal.counted_leg-requires
counted_leg-requires c =
    rw c.payment_leg-payments.ensures (payment-reach _ c.args.t.security c.requires.security)

pub returns : goal.returns
returns c =
    let a = c.args in
    let t = a.t in
    c.counted_leg.ensures
    ∙ rw (c.payment_leg-payments.ensures) (counted-capped a.settled t.valueday1 t.valueday2 (signed_leg a.sign (payments_of t.security)))
