-- `bond::value::payments_up_to` meets its contract.
use Prim.Native.Nat.{◌<◌, ◌≤◌}
use borrow.Author.Rules.{rules}
use borrow.Author.Tests.{tests}
use Rattle.std.proofs.lemmas.Iterator.{first_from_Range}
use Rattle.legs.specs.Runs.{flow_of}
use Rattle.bond.proofs.Reach.{first-behind}
use Rattle.bond.proofs.value.payments_up_to.Goals as goal

pub returns : goal.returns
returns c =
    let a = c.args in
    rw c.unwrap_or.ensures
    (first-behind _
    (first_from_Range _ _ _ _ (λ k. a.day < (flow_of a.l k).day) (λ k. (flow_of a.l k).day ≤ a.day) c.find.ensures.ran (λ x q k. search (rules, tests)) (λ x q k. search (rules, tests))))
