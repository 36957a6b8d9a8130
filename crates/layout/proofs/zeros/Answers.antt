-- `layout::zeros` meets its contract.
use Rattle.std.proofs.Common.{ℕ, eqb, ◌-◌, ◌∙◌, rules}
use Rattle.std.proofs.lemmas.Iterator.{YieldsList-from_slice}
use Rattle.std.proofs.lemmas.Iterator.Search.{all_from_yields_List}
use Rattle.layout.specs.Bytes.{part}
use Rattle.layout.proofs.Bytes.{zeros-all}
use Rattle.layout.proofs.zeros.Goals as goal

pub returns : goal.returns
returns c =
    let a = c.args in
    all_from_yields_List (λ (x : ℕ). eqb x 0) _ _ _ c.all.ensures.ran (YieldsList-from_slice (part a.s.now a.from (a.to - a.from)) cc) (λ x b q k. search rules)
    ∙ zeros-all a.s.now a.from a.to c.requires.0 c.requires.1
