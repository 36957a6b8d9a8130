-- `bootstrap::decide::decided` meets its contract.
use mathlib.Core.Path.{sym, ◌∙◌}
use Rattle.acceptance.proofs.Laws.{book-accepted}
use Rattle.bootstrap.proofs.decide.decided.Goals as goal

pub quoted-requires : goal.quoted-requires
quoted-requires c = record { used = _; accepted = (book-accepted _ _ _ (sym c.check.ensures ∙ c.in_ok-check.was)).blocks }
