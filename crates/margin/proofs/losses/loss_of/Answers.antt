-- `margin::losses::loss_of` meets its contract.
use mathlib.Core.Path.{◌≡◌}
use lib.IntN.{◌-ℤ◌}
use Rattle.laws.proofs.Signed.{fits, read, read_is}
use Rattle.discount.specs.Flows.{flow_value}
use Rattle.curve.proofs.Stress.{proper-stressed}
use Rattle.ladder.specs.Exposure.{exposure_of}
use Rattle.margin.specs.Losses.{loss_at}
use Rattle.margin.proofs.Stressing.{losses-fit, code-loss}
use Rattle.margin.proofs.losses.loss_of.Goals as goal
use Rattle.margin.proofs.losses.loss_of.Goals.{After-value_of-total}

pub value_of-total-requires : goal.value_of-total-requires
value_of-total-requires c =
    let b = c.requires.0 in
    (rw c.curve_in-stressed.ensures (proper-stressed _ _ b.limits.proper), b.limits.schedules)

-- the code's difference is the loss
module _ (c : After-value_of-total) where
  loss-is : read c.args.valued.base -ℤ read c.value_of-total.result.sum ≡ loss_at flow_value (exposure_of c.args.valued.position c.args.ladder.now) c.args.s
  loss-is = code-loss _ _ c.requires.0.limits _ _ _ _ c.requires.0.value c.curve_in-stressed.ensures c.value_of-total.ensures

pub overflow_sub-result : goal.overflow_sub-result
overflow_sub-result c = rw (loss-is (goal.at.overflow_sub-result c).After-value_of-total) (fits _ (losses-fit _ _ c.requires.0.limits _))

pub returns : goal.returns
returns c = rw (loss-is (goal.at.returns c).After-value_of-total) (read_is _ (losses-fit _ _ c.requires.0.limits _))
