-- `margin::estimates::estimate` meets its contract.
use mathlib.Core.List.{List}
use mathlib.Core.Path.{◌∙◌}
use lib.IntN.{ℤ, pos}
use lib.ListN.{length, replicate, length-replicate}
use Rattle.discount.specs.declared.Flow.{Flow}
use Rattle.netting.proofs.Sizes.{nets-length}
use Rattle.ladder.specs.Ladder.{ladder_flows}
use Rattle.margin.proofs.Estimating.{estimates}
use Rattle.ladder.proofs.LadderFlows.{ladder-limits}
use Rattle.ladder.proofs.Netting.{nets-none, nets-size}
use Rattle.margin.proofs.estimates.estimate.Goals as goal
use Rattle.margin.proofs.estimates.estimate.Goals.{After-net_days, Start}

-- the flows
abbrev flows : Start → List Flow
flows s = let p = s.args.position in ladder_flows p.id s.args.ladder.now p.schedules

pub net_days-requires : goal.net_days-requires
net_days-requires c =
    let h = c.requires.0.schedules in
    (h, length-replicate {A = ℤ} 10951 (pos 0), nets-none (length (flows (goal.at.net_days-requires c).Start)) h.few)

pub screen-requires : goal.screen-requires
screen-requires c =
    let p = c.args.position in
    let h = c.requires.0 in
    let e = c.net_days.ensures in (
      h.proper,
      h.stress,
      rw e (nets-length (flows (goal.at.screen-requires c).Start) (replicate 10951 (pos 0)) ∙ length-replicate {A = ℤ} 10951 (pos 0)),
      rw e (nets-size (flows (goal.at.screen-requires c).Start) (ladder-limits p.id c.args.ladder.now p.schedules h.schedules) h.schedules.few),
      c.requires.1,
    )

pub returns : goal.returns
returns c =
    estimates _ _ c.requires.0 _ _ _ c.net_days.ensures c.deviation_of.ensures (c.screen.ensures.kept ∙ c.requires.1) c.screen.ensures.each
