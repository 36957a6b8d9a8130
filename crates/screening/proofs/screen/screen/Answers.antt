-- `screening::screen::screen` meets its contract.
use mathlib.Core.Path.{◌≡◌}
use mathlib.Core.List.{List}
use Prim.Native.Nat.{ℕ, ◌≤◌}
use native.Mathlib.Omega.{arith}
use lib.ListN.{length, take, length-replicate}
use lib.Seq.{length-take-le}
use Rattle.curve.proofs.Scenarios.{scenarios-most}
use Rattle.netting.specs.Netting.{net_size}
use Rattle.estimate.specs.Values.{most_size, Listed}
use Rattle.mapping.specs.Mapping.{spare_of}
use Rattle.screening.proofs.Refining.{filled-screened}
use Rattle.screening.proofs.screen.screen.Goals as goal
use Rattle.screening.proofs.screen.screen.Goals.{After-list_days-count, After-size_of-size, Start}

-- the days as they are listed
module _ (c : After-list_days-count) where
  abbrev count : ℕ
  count = c.list_days-count.result

  abbrev days : List ℕ
  days = take count c.list_days-count.new.days

  room : count ≤ length c.list_days-count.new.days
  room =
      let e = c.list_days-count.ensures in
      omega (arith, e.kept, e.list.0, c.requires.2, length-replicate {A = ℕ} 10951 0)

  days-count : length days ≡ count
  days-count = length-take-le _ _ room

  days-listed : Listed c.args.nets.now days
  unfolding most_size
  days-listed = record { places = c.requires.2; list = c.list_days-count.ensures.list.1; size = c.requires.3 }

pub size_of-size-requires : goal.size_of-size-requires
size_of-size-requires c = days-listed (goal.at.size_of-size-requires c).After-list_days-count

-- with their size

pub screen_mapped-requires : goal.screen_mapped-requires
unfolding spare_of
screen_mapped-requires c =
    let p = c.requires in
    let few : count (goal.at.screen_mapped-requires c).After-list_days-count ≤ 10951 = omega (arith, c.list_days-count.ensures.list.0, p.2) in
    let size : net_size c.args.nets.now (days (goal.at.screen_mapped-requires c).After-list_days-count) ≤ 139000000000000000 =
    omega (arith, c.size_of-size.ensures, c.mappable.ensures c.if-mappable.true) in
    (p.0, p.1, days-listed (goal.at.screen_mapped-requires c).After-list_days-count, record { places = p.2; list = c.list_days-count.ensures.list.1; few = omega (arith, days-count (goal.at.screen_mapped-requires c).After-list_days-count, few); size = size }, rw (c.size_of-size.ensures, days-count (goal.at.screen_mapped-requires c).After-list_days-count), p.4)

pub fill_values-requires : goal.fill_values-requires
fill_values-requires c =
    let p = c.requires in
    (p.0, p.1, days-listed (goal.at.fill_values-requires c).After-list_days-count, omega (arith, p.4, scenarios-most _ p.1))

pub returns-clause-each : goal.returns-clause-each
returns-clause-each c = filled-screened _ _ _ _ c.fill_values.ensures.each
