-- `ladder::valuing::Valuing::add` meets its contract.
use mathlib.Core.Path.{sym, ◌∙◌}
use native.Mathlib.Omega.{arith}
use Rattle.ladder.proofs.Held.{value-most, with-known, with-both, with-waiting}
use Rattle.ladder.proofs.Totals.{total-less}
use Rattle.ladder.proofs.valuing.Valuing.add.Goals as goal

pub with_flow-self-requires : goal.with_flow-self-requires
with_flow-self-requires c =
    let p = c.requires in
    (total-less (omega arith) p.0.room, p.2, rw c.in-Some.ensures.value_value (value-most _ _ p.2))

pub returns-in-Some-clause-with_flow : goal.returns-in-Some-clause-with_flow
returns-in-Some-clause-with_flow c = with-known _ _ _ c.requires.2 c.in-Some.ensures.value_value c.with_flow-self.ensures

pub returns-in-Some-take-clause-with_flow : goal.returns-in-Some-take-clause-with_flow
returns-in-Some-take-clause-with_flow c =
    rw c.take.ensures.after
    (with-both _ _ _ c.requires.2 (sym c.take.ensures.value ∙ c.in-Some-take.is) c.with_two-self.ensures.value)

pub returns-in-None-clause-with_flow : goal.returns-in-None-clause-with_flow
returns-in-None-clause-with_flow c = with-waiting _ _ _ c.requires.2 (sym c.take.ensures.value ∙ c.in-None.is)
