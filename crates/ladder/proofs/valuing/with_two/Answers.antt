-- `ladder::valuing::with_two` meets its contract.
use mathlib.Core.Path.{◌≡◌, ◌∙◌, ap}
use mathlib.Core.List.{List}
use Prim.Native.Nat.{ℕ}
use native.Mathlib.Omega.{arith}
use Rattle.decimal.specs.Product.{unit}
use Rattle.curve.specs.declared.Node.{Node}
use Rattle.curve.specs.Rates.{nodes_of, rate_at}
use Rattle.curve.proofs.Rates.{curve-rate-limit}
use Rattle.discount.specs.Discount.{million, factor}
use Rattle.discount.specs.declared.Flow.{Flow}
use Rattle.discount.specs.Flows.{flow_value}
use Rattle.ladder.specs.declared.total.Total.{Total}
use Rattle.ladder.specs.Totals.{plus_flow}
use Rattle.ladder.proofs.KeptFactors.{factor-kept, kept-with}
use Rattle.ladder.proofs.Held.{at-factor, value-most}
use Rattle.ladder.proofs.Totals.{total-less, total-next}
use Rattle.ladder.proofs.valuing.with_two.Goals as goal
use Rattle.ladder.proofs.valuing.with_two.Goals.{After-discounted, After-discounted-2, After-factors-both, After-struct_known-2-1, Start}

pub factors-both-requires : goal.factors-both-requires
unfolding million
factors-both-requires c =
    let proper = c.requires.1 in
    (rw c.rate_at.ensures (curve-rate-limit _ proper _), rw c.rate_at-2.ensures (curve-rate-limit _ proper _))

-- the factors of both days
module _ (c : After-factors-both) where
  abbrev nodes : List Node
  nodes = nodes_of c.args.curve

  first : c.factors-both.result.first.0 ≡ factor (rate_at nodes c.args.f.day) c.args.f.day
  first = c.factors-both.ensures.0 ∙ ap (λ (r : ℕ). factor r c.args.f.day) c.rate_at.ensures

  second : c.factors-both.result.second.0 ≡ factor (rate_at nodes c.args.g.day) c.args.g.day
  second = c.factors-both.ensures.2 ∙ ap (λ (r : ℕ). factor r c.args.g.day) c.rate_at-2.ensures

-- where they are kept

pub overflow_mul-factors : goal.overflow_mul-factors
unfolding unit
overflow_mul-factors c = omega (arith, c.factors-both.ensures.1)

pub overflow_mul-factors-2 : goal.overflow_mul-factors-2
unfolding unit
overflow_mul-factors-2 c = omega (arith, c.factors-both.ensures.3)

-- the values added are those of the flows
one : (c : After-discounted) → c.discounted.result ≡ flow_value (rate_at (nodes_of c.args.curve)) c.args.f
one c =
    c.discounted.ensures
    ∙ at-factor _ c.args.f (c.factors-both.ensures.0 ∙ ap (λ (r : ℕ). factor r c.args.f.day) c.rate_at.ensures)

other : (c : After-discounted-2) → c.discounted-2.result ≡ flow_value (rate_at (nodes_of c.args.curve)) c.args.g
other c =
    c.discounted-2.ensures
    ∙ at-factor _ c.args.g (c.factors-both.ensures.2 ∙ ap (λ (r : ℕ). factor r c.args.g.day) c.rate_at-2.ensures)

pub with_flow-requires : goal.with_flow-requires
with_flow-requires c =
    let at = (goal.at.with_flow-requires c).After-discounted in
    (total-less (omega arith) c.requires.0, c.requires.2, rw (one at) (value-most _ c.args.f c.requires.2))

pub with_flow-requires-2 : goal.with_flow-requires-2
with_flow-requires-2 c = (
  rw c.with_flow.ensures (total-next (rw (one (goal.at.with_flow-requires-2 c).After-discounted) (value-most _ c.args.f c.requires.2)) c.requires.2 c.requires.0),
  c.requires.3,
  rw (other (goal.at.with_flow-requires-2 c).After-discounted-2) (value-most _ c.args.g c.requires.3),
)

-- a total with two values, as they are known
added : (t : Total) (f g : Flow) {u r : Total} {a b x y : ℕ} → a ≡ x → b ≡ y → u ≡ plus_flow t f a → r ≡ plus_flow u g b → r ≡ plus_flow (plus_flow t f x) g y
added t f g d e p q = rw (q, p, d, e)

pub returns : goal.returns
returns c =
    let a = c.args in record { value = added a.total a.f a.g (one (goal.at.returns c).After-discounted) (other (goal.at.returns c).After-discounted-2) c.with_flow.ensures c.with_flow-2.ensures; kept_factors = kept-with _ _ (kept-with _ _ c.requires.4 (factor-kept _ _ (first (goal.at.returns c).After-factors-both))) (factor-kept _ _ (second (goal.at.returns c).After-factors-both)) }
