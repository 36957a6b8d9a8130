-- Demand 3 of a report: what it shows of each curve and currency, against the exact values of the book.
use Rattle.std.specs.Prelude.{List, ℕ, ◌≤◌}
use Rattle.book.specs.Parts.{curve_count}
use Rattle.margin.specs.Demand.{CurveBounded, InitialBounded}
use Rattle.report_block.specs.Shown.{curve_shown, shown_initial}
use Rattle.exposure.specs.Exposures.{exposure_at, exposures}

-- "This holds for every accepted book and each of its curves. The base value shown differs from the exact one by at most the curve's tolerance. The
-- worst loss shown differs from the exact worst loss over all listed scenarios by at most twice that tolerance. Every listed scenario has an exact loss
-- of at most the exact loss of the scenario shown plus four tolerances. Exact means amount × (1 + rate) to the power −days/365", "rounded to the
-- nearest too, halves up and before the sign" (document 02, wish 7), "at document 01's rates." "The tolerance, which is shown too, is the sum over the
-- curve's flows of amount × 2(k + n) / 10^12, each rounded up, where days = 365n + k and k is below 365."
pub record Bounded (s report : List ℕ) : Type 0 where
  -- "each of its curves"
  pub curve : (k : ℕ) → 1 ≤ k → k ≤ curve_count s → CurveBounded (exposure_at s k) (curve_shown report k)
  -- "Demand 3 also covers each initial"
  pub initial : (currency : ℕ) → 1 ≤ currency → currency ≤ 3 → InitialBounded currency (exposures s) (shown_initial report currency)
