-- `margin::choice::first_kept` meets its contract.
use lib.IntN.{ℤ}
use lib.ListN.{take}
use lib.Signed.{◌≤ℤ◌, ◌<ℤ◌}
use Rattle.std.proofs.Common.{rules, tests}
use Rattle.std.proofs.lemmas.Int.{ints}
use Rattle.std.proofs.lemmas.Iterator.{YieldsList-from_slice, IsFirst-from_position}
use Rattle.margin.proofs.Discarding.{first-kept}
use Rattle.margin.proofs.choice.first_kept.Goals as goal

pub returns : goal.returns
returns c =
    let a = c.args in
    let first = IsFirst-from_position _ _ c.position.result (λ (v : ℤ). v ≤ℤ a.limit) (λ (v : ℤ). a.limit <ℤ v) c.position.ensures.ran (YieldsList-from_slice (take a.n a.values.now) cc) (λ x q k. search (rules, tests, ints)) (λ x q k. search (rules, tests, ints)) in
    first-kept a.values.now a.limit a.n c.requires.0 c.unwrap.result (rw c.unwrap.ensures at first)
