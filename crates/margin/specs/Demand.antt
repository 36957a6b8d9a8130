-- What the figures owe to the exact values (demand 3). The exact side is `flow_exact`, the power inequality, and no factor.
use Rattle.std.specs.Prelude.{cond, List, [], ◌∷◌, ◌≡◌, ℕ, ◌+◌, ◌*◌, ◌<◌, eqb, ℤ, pos, ◌+ℤ◌}
use Rattle.laws.specs.Distance.{Below, Within}
use Rattle.curve.specs.Scenarios.{scenario_count}
use Rattle.discount.specs.Flows.{flow_exact}
use Rattle.ladder.specs.Exposure.{Exposure}
use Rattle.ladder.specs.Values.{base_of, tolerance_of}
use Rattle.margin.specs.Losses.{loss_at, worst_loss}
use Rattle.margin.specs.declared.CurveMargin.{CurveMargin}

-- "The exact base is the sum of their exact values at the curve's own rates"
abbrev pub exact_base : Exposure → ℤ
exact_base e = base_of flow_exact e

-- "A scenario's exact loss is the exact base minus the same sum at the rates that its stressed nodes give"
abbrev pub exact_loss : Exposure → ℕ → ℤ
exact_loss e s = loss_at flow_exact e s

-- "The exact worst loss is the largest exact loss over the curve's list"
abbrev pub exact_worst : Exposure → ℤ
exact_worst e = worst_loss flow_exact e

-- "This holds for every accepted book and each of its curves", here for one of them. "Exact means amount × (1 + rate) to the power −days/365", "rounded
-- to the nearest too, halves up and before the sign" (document 02, wish 7), "at document 01's rates."
pub record CurveBounded (e : Exposure) (m : CurveMargin) : Type 0 where
  -- "The tolerance, which is shown too, is the sum over the curve's flows of amount × 2(k + n) / 10^12, each rounded up, where days = 365n + k and k is
  -- below 365."
  pub tolerance : m.tolerance ≡ tolerance_of e
  -- "The base value shown differs from the exact one by at most the curve's tolerance."
  pub base : Within m.base (exact_base e) m.tolerance
  -- "The worst loss shown differs from the exact worst loss over all listed scenarios by at most twice that tolerance."
  pub worstloss : Within m.worstloss (exact_worst e) (2 * m.tolerance)
  -- the scenario shown is a listed one
  pub listed : m.scenario < scenario_count e.components
  -- "Every listed scenario has an exact loss of at most the exact loss of the scenario shown plus four tolerances."
  pub shown : (s : ℕ) → s < scenario_count e.components → Below (exact_loss e s) (exact_loss e m.scenario) (4 * m.tolerance)

-- over the curves of a currency: the sum of the exact worst losses, and of the tolerances
unfoldable pub exact_initial : ℕ → List Exposure → ℤ
exact_initial currency [] = pos 0
exact_initial currency (e ∷ es) =
    cond (eqb e.currency currency) (exact_worst e +ℤ exact_initial currency es) (exact_initial currency es)

unfoldable pub tolerances_in : ℕ → List Exposure → ℕ
tolerances_in currency [] = 0
tolerances_in currency (e ∷ es) =
    cond (eqb e.currency currency) (tolerance_of e + tolerances_in currency es) (tolerances_in currency es)

-- "each initial: it differs from the sum of its curves' exact worst losses by at most twice their summed tolerances"
abbrev pub InitialBounded : ℕ → List Exposure → ℤ → Type 0
InitialBounded currency es initial = Within initial (exact_initial currency es) (2 * tolerances_in currency es)
