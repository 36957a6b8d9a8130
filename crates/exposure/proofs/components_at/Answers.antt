-- `exposure::components_at` meets its contract: an accepted book's curve block gives proper components.
use mathlib.Core.Path.{refl, ◌∙◌}
use native.Mathlib.Omega.{arith}
use Rattle.book.proofs.Accepted.{sound, curve-sound}
use Rattle.exposure.proofs.components_at.Goals as goal

pub block_at-requires : goal.block_at-requires
block_at-requires c =
    let b = sound _ _ c.requires.0.accepted in
    omega (arith, b.blocks, b.lent, c.requires.2)

pub returns : goal.returns
returns c =
    let b = curve-sound _ _ (sound _ _ c.requires.0.accepted) c.args.curve c.requires.1 c.requires.2 in
    record { value = c.components_of.ensures ∙ rw c.block_at.ensures.result_value refl; proper_components = rw (c.components_of.ensures, c.block_at.ensures.result_value) b.components }
