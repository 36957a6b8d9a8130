-- `margin::margins::curve_margin` meets its contract.
use Rattle.margin.specs.Margins.{curve_margin}
use Rattle.margin.proofs.Stressing.{figures-are}
use Rattle.margin.proofs.margins.curve_margin.Goals as goal

pub returns : goal.returns
unfolding curve_margin
returns c =
    figures-are _ _ c.requires _ c.value_of-total.ensures _ _ c.worst_of-worst.ensures
