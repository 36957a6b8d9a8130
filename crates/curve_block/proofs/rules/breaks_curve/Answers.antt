-- `curve_block::rules::breaks_curve` meets its contract.
use mathlib.Core.Path.{sym, ◌∙◌}
use Rattle.curve_block.proofs.Accepted.{count_most}
use Rattle.curve_block.proofs.rules.breaks_curve.Goals as goal

pub unnamed_zero-requires : goal.unnamed_zero-requires
unnamed_zero-requires c = (c.requires, count_most c.args.b.now c.args.k (sym c.numbers_sound.ensures ∙ c.if-numbers_sound.true))
