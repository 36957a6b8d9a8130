-- `seddolki::seddolki_preview` meets its contract: number 0 is that nothing was refused, so what the entry says of its report holds.
use mathlib.Core.Path.{sym, ap, ◌∙◌}
use Rattle.seddolki.specs.declared.Answer.{Answer}
use Rattle.seddolki.proofs.Theorems.{done-accepted}
use Rattle.seddolki.proofs.seddolki_preview.Goals as goal

pub returns-clause-bounded : goal.returns-clause-bounded
returns-clause-bounded c =
    λ done. rw c.from.ensures at (c.preview.ensures.bounded (done-accepted _ (ap (λ (a : Answer). a.number) (sym c.into.ensures) ∙ done)))
