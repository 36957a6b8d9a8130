-- `mapping::grid::map_nets` meets its contract.
use Rattle.mapping.proofs.MappedLow.{grid, mapped-low}
use Rattle.mapping.proofs.grid.map_nets.Goals as goal

pub map_days-requires : goal.map_days-requires
map_days-requires c =
    (grid c.args.curve c.requires.0 c.args.components _ c.list_segments.ensures.each, c.requires.2, c.requires.3)

pub returns : goal.returns
returns c =
    rw c.map_days.ensures
    (mapped-low c.args.curve c.requires.0 c.args.components _ c.list_segments.ensures.each _ _ c.requires.2)
