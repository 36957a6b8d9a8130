-- `mapping::grid::add_flow` meets its contract.
use borrow.Author.Rules.{rules}
use native.Mathlib.Omega.{arith}
use mir.Syntax.{w64}
use mir.Val.{SFits}
use Rattle.laws.proofs.Signed.{back}
use Rattle.netting.specs.Netting.{net_on, net_with}
use Rattle.netting.proofs.NetAmounts.{net-read}
use Rattle.mapping.proofs.grid.add_flow.Goals as goal

pub returns : goal.returns
unfolding net_with
returns c =
    let net = net_on c.args.nets.now c.args.f.day in
    let f : SFits w64 net = search rules in
    rw (net-read net c.args.f (omega (arith, c.requires.2)) (omega (arith, c.requires.1.amount)) _ (rw (back net f.sfits) at c.net_with.ensures))
