-- `flows::verdict::record_verdict` meets its contract: the rules 8, 9 and 10 were asked before, so that no amount overflows.
use Rattle.ground.proofs.Verdicts.{not-broken}
use Rattle.flows.proofs.Accepted.{sound-record, trade-limits}
use Rattle.flows.proofs.verdict.record_verdict.Goals as goal

pub breaks_flow_limit-requires : goal.breaks_flow_limit-requires
breaks_flow_limit-requires c =
    rw c.trade_of.ensures
    (trade-limits c.args.f
    (sound-record c.args.curves c.args.f
    (not-broken _ _ c.breaks_form.ensures c.refuse_if.ensures c.in_ok-refuse_if.was)
    (not-broken _ _ c.breaks_days.ensures c.refuse_if-2.ensures c.in_ok-refuse_if-2.was)
    (not-broken _ _ c.breaks_amounts.ensures c.refuse_if-3.ensures c.in_ok-refuse_if-3.was)))
