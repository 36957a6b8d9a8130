-- `report::curve_figures` meets its contract: the ladder has the curve's flows, and the block gives a proper curve.
use mathlib.Core.Path.{refl, ◌∙◌}
use native.Mathlib.Omega.{arith}
use Rattle.book.proofs.Accepted.{sound, curve-sound}
use Rattle.exposure.specs.Exposures.{exposure_at}
use Rattle.report.proofs.curve_figures.Goals as goal

pub block_at-b-requires : goal.block_at-b-requires
block_at-b-requires c =
    let b = sound _ _ c.requires.0.accepted in
    omega (arith, b.blocks, b.lent, c.requires.2)

pub components_at-requires : goal.components_at-requires
components_at-requires c =
    (c.requires.0, omega (arith, c.requires.1), omega (arith, c.requires.1, c.requires.2))

pub curve_margin-requires : goal.curve_margin-requires
curve_margin-requires c =
    let b = curve-sound _ _ (sound _ _ c.requires.0.accepted) c.args.curve c.requires.1 c.requires.2 in
    record {
      proper = rw (c.curve_of.ensures, c.block_at-b.ensures.result_value) b.curve;
      stress = c.components_at.ensures.proper_components;
      schedules = c.gather-schedules.ensures.limits;
    }

pub returns : goal.returns
unfolding exposure_at
returns c =
    c.curve_margin.ensures
    ∙ rw (c.curve_of.ensures, c.components_at.ensures.value, c.currency_of.ensures, c.block_at-b.ensures.result_value, c.gather-schedules.ensures.flows) refl
