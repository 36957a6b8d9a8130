-- `ladder::net::net_days` meets its contract, by the fold over the ladder's flows.
use mathlib.Core.Path.{◌≡◌, refl}
use Prim.Native.Nat.{◌≤◌}
use native.Mathlib.Omega.{arith}
use lib.IntN.{ℤ, nat_abs}
use Rattle.laws.proofs.Signed.{read, read_is}
use Rattle.decimal.specs.Product.{unit}
use Rattle.netting.specs.Netting.{net_on, net_with}
use Rattle.netting.proofs.NetAmounts.{net-read}
use Rattle.ladder.specs.Totals.{FlowLimits, RoomFor}
use Rattle.ladder.proofs.Folds.{folded-none, folded-next, folded-turn, folded-all, room-here, flow-limits, room-less}
use Rattle.ladder.proofs.Netting.{nets-next}
use Rattle.ladder.proofs.net.net_days.Goals as goal
use Rattle.ladder.proofs.net.net_days.Goals.{After-flow-f}

pub loop-i-init : goal.loop-i-init
loop-i-init c = let p = c.requires in folded-none _ _ _ _ _ _ (p.1, p.2)

module _ (c : After-flow-f) where
  limits : FlowLimits c.flow-f.result
  limits = flow-limits c.requires.0 c.loop-i-test.true c.leg_at-leg.ensures c.loop-k-test.true c.flow-f.ensures

  abbrev net : ℤ
  net = net_on c.loop-k.nets c.flow-f.result.day

  net-size : nat_abs net ≤ 1000000000000000000
  unfolding unit
  net-size =
      let room : RoomFor unit 1 (nat_abs net) = room-less (omega arith) ((room-here c.requires.0 c.loop-i-test.true c.leg_at-leg.ensures c.loop-k.invariant c.loop-k-test.true).1.each _) in
      omega (arith, room.fits)

  net-same : read net ≡ net
  net-same = read_is net (omega (arith, net-size))

  amount : c.flow-f.result.amount ≤ 1000000000000000000
  unfolding unit
  amount = omega (arith, limits.amount)

pub net_with-requires : goal.net_with-requires
net_with-requires c = let at = (goal.at.net_with-requires c).After-flow-f in (rw (net-same at) (net-size at), amount at)

pub loop-k-preserved : goal.loop-k-preserved
unfolding net_with
loop-k-preserved c =
    let at = (goal.at.loop-k-preserved c).After-flow-f in
    rw (net-read (net at) c.flow-f.result (net-size at) (amount at) _ (rw (net-same at) at c.net_with.ensures))
    (folded-next c.requires.0 c.loop-i-test.true c.leg_at-leg.ensures c.loop-k.invariant c.loop-k-test.true c.flow-f.ensures refl (λ n k. nets-next _ _ (limits at) k))

pub loop-i-preserved : goal.loop-i-preserved
loop-i-preserved c = folded-turn c.requires.0 c.loop-i-test.true c.leg_at-leg.ensures c.loop-k.invariant c.loop-k.auto.k-end c.loop-k-test.false

pub returns : goal.returns
returns c = folded-all c.loop-i.invariant c.loop-i-test.false
