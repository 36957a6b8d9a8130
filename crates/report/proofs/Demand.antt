-- Demand 3: whatever margin writes for an accepted book is bounded by the exact values.
use mathlib.Core.Path.{◌≡◌, sym, ap, ◌∙◌}
use mathlib.Core.List.{List, ◌++◌, map}
use Prim.Native.Nat.{ℕ, zero, suc, ◌+◌, ◌≤◌}
use native.Mathlib.Omega.{arith}
use borrow.Author.Tests.{le-ltb}
use lib.ListN.{length, drop}
use Rattle.std.specs.Prelude.{Ok, Some}
use Rattle.laws.specs.All.{All}
use Rattle.laws.specs.Walk.{table}
use Rattle.laws.proofs.Signed.{fits}
use Rattle.ground.specs.Verdicts.{Verdict}
use Rattle.ground.specs.Space.{breaks_space}
use Rattle.ground.proofs.Verdicts.{or_else-accepted}
use Rattle.decimal.specs.Product.{unit}
use Rattle.curve.specs.Limits.{NodeLimits}
use Rattle.curve.proofs.Rates.{each-limits}
use Rattle.book.specs.Parts.{curve_count}
use Rattle.book.proofs.Accepted.{Sound, sound, curve-sound}
use Rattle.margin.specs.declared.CurrencyMargin.{CurrencyMargin}
use Rattle.margin.specs.Margins.{curve_margin, currency_margin, no_curve, no_currency}
use Rattle.ladder.proofs.Sizes.{value-fits}
use Rattle.margin.proofs.Sizes.{loss-fits}
use Rattle.margin.proofs.Bounded.{AllNodeLimits, curve-bounded, initial-bounded}
use Rattle.report_block.specs.Report.{report_bytes}
use Rattle.report_block.specs.Shown.{curve_shown, currency_shown, shown_initial, CurveFits, CurrencyFits}
use Rattle.report_block.proofs.Shown.{curve-shown, currency-shown}
use Rattle.exposure.specs.Exposures.{exposure_at, exposures}
use Rattle.acceptance.specs.Verdict.{book_verdict}
use Rattle.acceptance.proofs.Laws.{book-accepted}
use Rattle.report.specs.Entry.{margin_in, report_verdict, margin_verdict, margin_bytes}
use Rattle.report.specs.Bounded.{Bounded}
use Rattle.report.proofs.Figures.{curve-sizes, currency-sizes, places, place_of, currency-at}
use Rattle.report.proofs.Answers.{space}

module _ (s : List ℕ) (used : ℕ) (b : Sound s used) where
  -- ---- curve k of the book

  nodes-limits : (k : ℕ) → 1 ≤ k → k ≤ curve_count s → All NodeLimits (exposure_at s k).nodes
  unfolding exposure_at
  nodes-limits k l m = each-limits _ (curve-sound s used b k l m).curve

  figures-fit : (k : ℕ) → 1 ≤ k → k ≤ curve_count s → CurveFits (curve_margin (exposure_at s k))
  figures-fit k l m =
      let figures = curve_margin (exposure_at s k) in
      let sizes = curve-sizes s used b k l m in
      record {
        base = (fits figures.base (value-fits figures.base sizes.base)).sfits;
        worstloss = (fits figures.worstloss (loss-fits figures.worstloss sizes.worstloss)).sfits;
        scenario = omega (arith, sizes.scenario);
        currency = omega (arith, sizes.currency);
        tolerance = omega (arith, sizes.tolerance);
      }

  -- ---- what the report shows is bounded

  pub curve-is : (rest : List ℕ) (k : ℕ) → 1 ≤ k → k ≤ curve_count s → curve_shown (report_bytes (margin_in s) ++ rest) k ≡ curve_margin (exposure_at s k)
  curve-is rest k l m =
      curve-shown (margin_in s) (places s used b) rest k no_curve (omega (arith, b.most)) (rw (place_of s used b k l m) (figures-fit k l m)) ∙ place_of s used b k l m

  all-limits : (i n : ℕ) → 1 ≤ i → i + n ≤ curve_count s + 1 → AllNodeLimits (table (exposure_at s) i n)
  unfolding table
  all-limits i zero l m = tt
  all-limits i (suc n) l m = (nodes-limits i l (omega arith), all-limits (suc i) n (omega arith) (omega arith))

  exposures-limits : AllNodeLimits (exposures s)
  unfolding exposures
  exposures-limits = all-limits 1 (curve_count s) (omega arith) (omega arith)

  currency-fits : (currency : ℕ) → CurrencyFits (currency_margin currency (map curve_margin (exposures s)))
  unfolding unit
  currency-fits currency =
      let figures = currency_margin currency (map curve_margin (exposures s)) in
      let sizes = currency-sizes s used b currency in
      record {
        initial = (fits figures.initial (omega (arith, sizes.initial))).sfits;
        variation = (fits figures.variation (omega (arith, sizes.variation))).sfits;
        total = (fits figures.total (omega (arith, sizes.total))).sfits;
      }

  pub currency-is : (rest : List ℕ) (currency : ℕ) → 1 ≤ currency → currency ≤ 3 → currency_shown (report_bytes (margin_in s) ++ rest) currency ≡ currency_margin currency (map curve_margin (exposures s))
  currency-is rest currency l m =
      let e = currency-at s used b currency l m no_currency in
      currency-shown (margin_in s) (places s used b) rest currency no_currency m (rw e (currency-fits currency)) ∙ e

  initial-is : (rest : List ℕ) (currency : ℕ) → 1 ≤ currency → currency ≤ 3
      → shown_initial (report_bytes (margin_in s) ++ rest) currency ≡ (currency_margin currency (map curve_margin (exposures s))).initial
  unfolding currency_shown
  initial-is rest currency l m = ap (λ (c : CurrencyMargin). c.initial) (currency-is rest currency l m)

  pub report-bounded : (rest : List ℕ) → Bounded s (report_bytes (margin_in s) ++ rest)
  report-bounded rest =
      record {
        curve = λ k l m. rw (curve-is rest k l m) (curve-bounded (exposure_at s k) (nodes-limits k l m));
        initial = λ currency l m. rw (initial-is rest currency l m) (initial-bounded currency (exposures s) exposures-limits);
      }

-- For every book that is accepted "with the day that margin was given", and every report space of 512 bytes, what margin writes there is bounded by
-- the exact values
pub demand : (s : List ℕ) (used day : ℕ) (out : List ℕ) → book_verdict s used (Some day) ≡ Ok tt → 512 ≤ length out → Bounded s (margin_bytes s used day out)
unfolding margin_bytes margin_verdict breaks_space
demand s used day out e h =
    rw (e, le-ltb (length out) 512 h) (report-bounded s used (sound s used (book-accepted s used (Some day) e).blocks) (drop 512 out))

-- so are the bytes that an accepted call leaves
pub demand-met : (s : List ℕ) (used day : ℕ) (out : List ℕ) {r : Verdict} {after : List ℕ} → r ≡ margin_verdict s used day (length out) → after ≡ margin_bytes s used day out
    → r ≡ Ok tt → Bounded s after
unfolding margin_verdict
demand-met s used day out e f h =
    let both = or_else-accepted (book_verdict s used (Some day)) (report_verdict (length out)) tt (sym e ∙ h) in
    rw f (demand s used day out both.0 (space s out both.1))
