-- `bootstrap::decide::extended` meets its contract.
use mathlib.Core.Path.{◌∙◌}
use Rattle.ground.proofs.Verdicts.{not-broken}
use Rattle.bootstrap.proofs.Extending.{extends}
use Rattle.bootstrap.proofs.decide.extended.Goals as goal

pub priced-requires : goal.priced-requires
priced-requires c =
    let kept = not-broken _ _ (c.breaks_curve_end.ensures ∙ rw c.open_node-n.ensures) c.refuse_if.ensures c.in_ok-refuse_if.was in
    rw (c.open_node-n.ensures, c.payments_of-l.ensures) (extends c.args.c c.args.q c.requires.0 c.requires.1 kept)
