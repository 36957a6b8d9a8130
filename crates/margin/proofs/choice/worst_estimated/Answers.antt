-- `margin::choice::worst_estimated` meets its contract.
use Prim.Native.Nat.{◌+◌, ◌*◌, ◌≤◌}
use mathlib.Core.Path.{◌≡◌}
use lib.IntN.{ℤ, pos, nat_abs, ◌+ℤ◌, ◌*ℤ◌}
use lib.ListN.{get_or}
use Rattle.laws.proofs.Signed.{cast, read}
use Rattle.decimal.specs.Product.{unit}
use Rattle.curve.specs.Scenarios.{scenario_count}
use Rattle.ladder.specs.Totals.{most_flows}
use Rattle.screening.specs.Screening.{Least}
use Rattle.margin.specs.Choice.{limit_of}
use Rattle.margin.proofs.Discarding.{not-above}
use Rattle.margin.proofs.Choosing.{limit-fits, limit-read, estimate-size, worst-is}
use Rattle.margin.proofs.choice.worst_estimated.Goals as goal
use Rattle.margin.proofs.choice.worst_estimated.Goals.{After-least_of-least, After-scenario_count, Start}

module _ (c : After-least_of-least) where
  abbrev lowest : ℤ
  lowest = get_or c.args.values.now c.least_of-least.result (pos 0)

  -- the least estimate's place, and its size
  least : Least c.args.values.now (scenario_count c.args.valued.position.components) c.least_of-least.result
  least = rw c.scenario_count.ensures at c.least_of-least.ensures

  size : nat_abs lowest ≤ most_flows * unit + c.args.deviation
  size = estimate-size _ _ c.requires.0.limits _ _ c.requires.1 _ least.within

  -- the limit, as the code has it
  limit : read (read lowest +ℤ read (pos 2 *ℤ cast c.args.deviation)) ≡ limit_of lowest c.args.deviation
  limit = limit-read c.args.deviation c.requires.1.small lowest size

pub overflow_add-limit : goal.overflow_add-limit
overflow_add-limit c =
    let s = (goal.at.overflow_add-limit c).After-least_of-least in
    limit-fits c.args.deviation c.requires.1.small (lowest s) (size s)

pub worst_kept-requires : goal.worst_kept-requires
worst_kept-requires c =
    let s = (goal.at.worst_kept-requires c).After-least_of-least in
    rw (limit s)
    (c.requires.0, c.requires.1.places, record { place = c.least_of-least.result; within = (least s).within; kept = not-above _ _ })

pub returns : goal.returns
returns c =
    let s = (goal.at.returns c).After-least_of-least in
    worst-is _ _ _ _ c.requires.1 (least s) _ (rw (limit s) at c.worst_kept.ensures)
