-- `ladder::valuing::total_of` meets its contract, by the fold over the ladder's flows.
use Rattle.curve.specs.Rates.{nodes_of, rate_at}
use Rattle.discount.specs.Flows.{flow_value}
use Rattle.ladder.specs.Kept.{KeptFactors}
use Rattle.ladder.specs.Held.{held, ValuingLimits}
use Rattle.ladder.specs.Totals.{plus_flow, no_flows}
use Rattle.ladder.proofs.Folds.{Folded}
use Rattle.ladder.proofs.valuing.total_of.Given as goal

abbrev pub invariant-loop-i : goal.invariant-loop-i
invariant-loop-i l =
    record {
      held : Folded (λ t f. plus_flow t f (flow_value (rate_at (nodes_of l.curve)) f)) (λ n t. ValuingLimits n l.valuing) l.id l.ladder l.schedules no_flows (held (nodes_of l.curve) l.valuing) l.i 0;
      kept : KeptFactors (nodes_of l.curve) l.factors;
    }

abbrev pub invariant-loop-k : goal.invariant-loop-k
invariant-loop-k l =
    record {
      held : Folded (λ t f. plus_flow t f (flow_value (rate_at (nodes_of l.curve)) f)) (λ n t. ValuingLimits n l.valuing) l.id l.ladder l.schedules no_flows (held (nodes_of l.curve) l.valuing) l.i l.k;
      kept : KeptFactors (nodes_of l.curve) l.factors;
    }
