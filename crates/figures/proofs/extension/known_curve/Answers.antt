-- `figures::extension::known_curve` meets its contract: the fields stand as they were put, and the check behind them.
use mathlib.Core.Path.{ap, ◌∙◌}
use Rattle.layout.specs.Check.{sealed}
use Rattle.figures.specs.Extension.{known_curve}
use Rattle.figures.proofs.Fields.{next_field}
use Rattle.figures.proofs.extension.known_curve.Goals as goal

pub returns : goal.returns
unfolding known_curve
returns c =
    let named = next_field 6 1 2 c.put_le-4.ensures (next_field 5 1 1 c.put_le-3.ensures (next_field 4 1 1 c.put_le-2.ensures c.put_le.ensures)) in
    c.seal.ensures
    ∙ ap sealed
    (next_field 44 4 105000 c.put_le-8.ensures
    (next_field 40 2 323 c.put_le-7.ensures (next_field 24 4 105000 c.put_le-6.ensures (next_field 20 2 170 c.put_le-5.ensures named))))
