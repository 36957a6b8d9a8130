-- `margin::choice::same_rates` meets its contract.
use mathlib.Core.Path.{◌∙◌}
use lib.Dec.{eqb}
use lib.ListN.{take}
use native.Mathlib.Omega.{arith}
use Rattle.std.proofs.Common.{rules, tests}
use Rattle.std.proofs.lemmas.Iterator.{YieldsList-from_slice, YieldsList-from_zip}
use Rattle.std.proofs.lemmas.Iterator.Search.{all_from_yields_List}
use Rattle.curve.specs.declared.Node.{Node}
use Rattle.margin.proofs.Discarding.{same-rates}
use Rattle.margin.proofs.choice.same_rates.Goals as goal

pub returns : goal.returns
returns c =
    let a = c.args.a in
    let b = c.args.b in
    all_from_yields_List (λ (p : Node × Node). eqb p.0.rate p.1.rate) c.all.new.self _ c.all.result c.all.ensures.ran (YieldsList-from_zip (YieldsList-from_slice (take a.count a.nodes) cc) (YieldsList-from_slice (take a.count b.nodes) cc)) (λ x r q k. search (rules, tests))
    ∙ same-rates a b (omega (arith, c.requires.0.places, c.requires.0.most)) (omega (arith, c.requires.1.places, c.requires.1.most, c.requires.2))
