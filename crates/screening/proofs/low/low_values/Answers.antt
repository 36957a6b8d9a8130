-- `screening::low::low_values` meets its contract.
use mathlib.Core.Path.{◌≡◌}
use mathlib.Core.List.{List}
use Prim.Native.Nat.{ℕ, ◌<◌}
use native.Mathlib.Omega.{arith}
use lib.IntN.{ℤ}
use lib.ListN.{take}
use Rattle.curve.proofs.Scenarios.{scenarios-most}
use Rattle.estimate.specs.Values.{most_size, Listed}
use Rattle.screening.proofs.Lowering.{filled-small, low-none-above, low_small, spare-most}
use Rattle.screening.proofs.low.low_values.Goals as goal
use Rattle.screening.proofs.low.low_values.Goals.{After-fill_values, After-list_days-count, After-map_nets, Start}

-- the grid's days as they are listed
module _ (c : After-list_days-count) where
  abbrev mapped : List ℤ
  mapped = c.map_nets.new.mapped

  grid-listed : Listed mapped (take c.list_days-count.result c.list_days-count.new.days)
  unfolding most_size
  grid-listed =
      let low = c.map_nets.ensures in
      record { places = low.places; list = c.list_days-count.ensures.list.1; size = low.size }

-- the values filled in
pub fill_values-requires : goal.fill_values-requires
fill_values-requires c =
    let p = c.requires in
    (p.0, p.1, grid-listed (goal.at.fill_values-requires c).After-list_days-count, omega (arith, scenarios-most _ p.1, p.4))

pub lower-requires : goal.lower-requires
lower-requires c =
    let n = c.scenario_count.ensures in
    let most = scenarios-most c.args.components c.requires.1 in
    let low = c.map_nets.ensures in
    (omega (arith, n, most, c.fill_values.ensures.kept, c.requires.4), counted _ _ n (filled-small c.args.curve c.args.components _ low.size _ c.fill_values.ensures.each), rw c.requires.3 (omega (arith, spare-most _ _ c.requires.2)), omega (arith, n, most))
  where
    counted : (n m : ℕ) {P : ℕ → Type 0} → n ≡ m → ((s : ℕ) → s < m → P s) → (s : ℕ) → s < n → P s
    counted n m e h s k = h s (omega arith)

pub returns-clause-low : goal.returns-clause-low
returns-clause-low c =
    let low = c.map_nets.ensures in
    let lowered = rw (c.scenario_count.ensures, c.requires.3) at c.lower.ensures.each in
    λ e. (low-none-above c.args.curve c.args.components _ _ _ low _ _ c.fill_values.ensures.each lowered, low_small c.args.curve c.args.components _ _ _ low _ _ c.fill_values.ensures.each lowered (spare-most _ _ c.requires.2))
