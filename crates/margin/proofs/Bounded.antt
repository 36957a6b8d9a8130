-- Demand 3, over the definitions. T is the sum of a curve's tolerances. The base is within T of the exact base, each loss and the worst one within 2T of
-- the exact ones, and no listed scenario's exact loss is above that of the scenario shown by more than 4T. An initial is within twice the summed
-- tolerances of the sum of the exact worst losses.
use mathlib.Core.Bool.{Bool, true, false, cond}
use mathlib.Core.List.{List, [], ◌∷◌, map}
use mathlib.Core.Path.{refl}
use Prim.Native.Nat.{ℕ, ◌+◌, ◌*◌, ◌-◌, ◌<◌}
use lib.Dec.{eqb}
use lib.IntN.{ℤ, neg_ℤ, ◌+ℤ◌, ◌-ℤ◌}
use Rattle.laws.specs.All.{All}
use Rattle.laws.specs.Distance.{Below, Within}
use Rattle.laws.proofs.Integer.{int, plus, up_neg, down-neg, up_pos, down_pos}
use Rattle.laws.proofs.Worst.{max-within, worst-near}
use Rattle.laws.proofs.Largest.{up_from, numbered}
use Rattle.curve.specs.declared.Node.{Node}
use Rattle.curve.specs.Limits.{NodeLimits}
use Rattle.curve.specs.Rates.{rate_at}
use Rattle.curve.specs.Scenarios.{scenario_count, scenario_at}
use Rattle.curve.specs.Stress.{stressed}
use Rattle.curve.proofs.Rates.{rate-limit}
use Rattle.curve.proofs.Stress.{each-stressed}
use Rattle.discount.specs.Discount.{million}
use Rattle.discount.specs.declared.Flow.{Flow}
use Rattle.discount.specs.Flows.{flow_value, flow_exact}
use Rattle.discount.proofs.FlowBounds.{Rated, flows-within}
use Rattle.ladder.specs.Exposure.{Exposure}
use Rattle.ladder.specs.Values.{value_on, tolerance_of}
use Rattle.margin.specs.Losses.{loss_at, worst_at, worst_loss}
use Rattle.margin.specs.Margins.{figures_at, curve_margin, sum_in, currency_margin}
use Rattle.margin.specs.Demand.{CurveBounded, exact_worst, exact_initial, tolerances_in, InitialBounded}
use Rattle.margin.proofs.Sizes.{first-largest}

-- ---- distances

minus-within : (a b c d : ℤ) (t : ℕ) → Within a b t → Within c d t → Within (a -ℤ c) (b -ℤ d) (2 * t)
minus-within a b c d t h k =
    omega (int, plus a (neg_ℤ c), plus b (neg_ℤ d), up_neg c, up_neg d, down-neg c, down-neg d)

plus-within : (a b c d : ℤ) (s t : ℕ) → Within a b (2 * s) → Within c d (2 * t) → Within (a +ℤ c) (b +ℤ d) (2 * (s + t))
plus-within a b c d s t h k = omega (int, plus a c, plus b d)

-- ---- the flows of a curve, at any nodes in their limits

rated : (nodes : List Node) → All NodeLimits nodes → (fs : List Flow) → Rated (rate_at nodes) fs
unfolding million
rated nodes h [] = tt
rated nodes h (f ∷ fs) = (rate-limit nodes f.day h, rated nodes h fs)

module _ (e : Exposure) (h : All NodeLimits e.nodes) where
  value-within : (nodes : List Node) → All NodeLimits nodes
      → Within (value_on flow_value nodes e.flows) (value_on flow_exact nodes e.flows) (tolerance_of e)
  value-within nodes p = flows-within (rate_at nodes) e.flows (rated nodes p e.flows)

  -- ---- a curve

  loss-within : (s : ℕ) → Within (loss_at flow_value e s) (loss_at flow_exact e s) (2 * tolerance_of e)
  unfolding loss_at
  loss-within s =
      minus-within _ _ _ _ _ (value-within e.nodes h)
      (value-within (map (stressed (scenario_at e.components s)) e.nodes) (each-stressed (scenario_at e.components s) e.nodes h))

  worst-within : Within (worst_loss flow_value e) (exact_worst e) (2 * tolerance_of e)
  unfolding worst_at
  worst-within =
      max-within (loss_at flow_value e) (loss_at flow_exact e) (2 * tolerance_of e) 0 (up_from 1 (scenario_count e.components - 1))
      (λ s m. loss-within s)

  shown-near : (s : ℕ) → s < scenario_count e.components
      → Below (loss_at flow_exact e s) (loss_at flow_exact e (worst_at flow_value e)) (2 * tolerance_of e + 2 * tolerance_of e)
  unfolding worst_at
  shown-near s k =
      worst-near (loss_at flow_value e) (loss_at flow_exact e) (2 * tolerance_of e) 0 (up_from 1 (scenario_count e.components - 1))
      (λ s m. loss-within s) s (numbered (scenario_count e.components) s k)

  pub curve-bounded : CurveBounded e (curve_margin e)
  unfolding curve_margin figures_at
  curve-bounded =
      record {
        tolerance = refl;
        base = value-within e.nodes h;
        worstloss = worst-within;
        listed = (first-largest e).within;
        shown = λ s k. let b : Below (loss_at flow_exact e s) (loss_at flow_exact e (worst_at flow_value e)) (2 * tolerance_of e + 2 * tolerance_of e) = shown-near s k in omega (int, b);
      }

-- ---- a currency

-- the nodes of every exposure are in their limits
abbrev pub AllNodeLimits : List Exposure → Type 0
AllNodeLimits [] = Unit {0}
AllNodeLimits (e ∷ es) = All NodeLimits e.nodes × AllNodeLimits es

module _ (currency : ℕ) where
  sums-within : (es : List Exposure) → AllNodeLimits es
      → Within (sum_in currency (λ m. m.worstloss) (map curve_margin es)) (exact_initial currency es) (2 * tolerances_in currency es)
  unfolding sum_in exact_initial tolerances_in curve_margin figures_at
  sums-within [] h = omega (int, up_pos 0, down_pos 0)
  sums-within (e ∷ es) h = go (eqb e.currency currency) (sums-within es h.1)
    where
      go : (t : Bool) → Within (sum_in currency (λ m. m.worstloss) (map curve_margin es)) (exact_initial currency es) (2 * tolerances_in currency es)
          → Within (cond t (worst_loss flow_value e +ℤ sum_in currency (λ m. m.worstloss) (map curve_margin es)) (sum_in currency (λ m. m.worstloss) (map curve_margin es))) (cond t (exact_worst e +ℤ exact_initial currency es) (exact_initial currency es)) (2 * cond t (tolerance_of e + tolerances_in currency es) (tolerances_in currency es))
      go true r = plus-within _ _ _ _ _ _ (worst-within e h.0) r
      go false r = r

  pub initial-bounded : (es : List Exposure) → AllNodeLimits es → InitialBounded currency es (currency_margin currency (map curve_margin es)).initial
  unfolding currency_margin
  initial-bounded es h = sums-within es h
