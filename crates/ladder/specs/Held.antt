-- What is held while a ladder is valued: a total, and a flow that may wait for its factor.
use Rattle.std.specs.Prelude.{◌≡◌, cond, List, ℕ, suc, ◌+◌, Option, Some, None, IfSome}
use Rattle.std.specs.Option.{is_some}
use Rattle.discount.specs.declared.Flow.{Flow}
use Rattle.discount.specs.Flows.{flow_value}
use Rattle.curve.specs.declared.Node.{Node}
use Rattle.curve.specs.Rates.{rate_at}
use Rattle.ladder.specs.declared.total.Total.{Total}
use Rattle.ladder.specs.declared.valuing.Valuing.{Valuing}
use Rattle.ladder.specs.Totals.{plus_flow, FlowLimits, TotalRoom}

-- a total with the flow that waits, where one does, at the rates that the nodes give
unfoldable pub with_waiting : List Node → Total → Option Flow → Total
with_waiting nodes t None = t
with_waiting nodes t (Some f) = plus_flow t f (flow_value (rate_at nodes) f)

abbrev pub held : List Node → Valuing → Total
held nodes v = with_waiting nodes v.total v.waiting

-- the total has room for n flows more and for the one that waits, which is in its limits
pub record ValuingLimits (n : ℕ) (v : Valuing) : Type 0 where
  pub room : TotalRoom (n + cond (is_some v.waiting) 1 0) v.total
  pub flow : IfSome v.waiting FlowLimits

-- r is v with one flow more
pub record WithFlow (nodes : List Node) (v : Valuing) (f : Flow) (r : Valuing) : Type 0 where
  pub held : held nodes r ≡ plus_flow (held nodes v) f (flow_value (rate_at nodes) f)
  pub limits : (n : ℕ) → ValuingLimits (suc n) v → ValuingLimits n r
