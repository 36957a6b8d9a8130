-- `seddolki::seddolki_margin` meets its contract: number 0 is that nothing was refused, so what the entry says of its report holds.
use mathlib.Core.Path.{sym, ap, ◌∙◌}
use Rattle.seddolki.specs.declared.Answer.{Answer}
use Rattle.seddolki.proofs.Theorems.{done-accepted}
use Rattle.seddolki.proofs.seddolki_margin.Goals as goal

pub returns-clause-bounded : goal.returns-clause-bounded
returns-clause-bounded c = λ done. c.margin.ensures.bounded (done-accepted _ (ap (λ (a : Answer). a.number) (sym c.into.ensures) ∙ done))
