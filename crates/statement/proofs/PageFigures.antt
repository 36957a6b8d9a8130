-- A reader of the page gets the report's figures back: of each amount's text the number is the one that the report of the same book shows.
use mathlib.Core.Path.{◌≡◌, sym, ap, ◌∙◌}
use mathlib.Core.Bool.{true}
use mathlib.Core.List.{List, [], ◌∷◌, ◌++◌}
use Prim.Native.Nat.{ℕ, ◌+◌, ◌-◌, ◌*◌, ◌≤◌, ◌<◌}
use native.Mathlib.Omega.{arith}
use lib.IntN.{pos}
use lib.ListN.{length, get_or, take}
use Rattle.std.specs.Prelude.{Ok}
use Rattle.record.specs.Bytes.{fields_of}
use Rattle.book.specs.Parts.{curve_count, trade_count, record_at, records}
use Rattle.book.specs.Verdict.{blocks_verdict}
use Rattle.book.proofs.Accepted.{Sound, sound}
use Rattle.book.proofs.Places.{length-records, record_of}
use Rattle.margin.specs.declared.CurveMargin.{CurveMargin}
use Rattle.margin.specs.declared.CurrencyMargin.{CurrencyMargin}
use Rattle.margin.specs.Margins.{no_curve, no_currency, has_currency}
use Rattle.report_block.specs.Report.{report_bytes}
use Rattle.report_block.specs.Shown.{curve_shown, currency_shown}
use Rattle.report.specs.Entry.{margin_in}
use Rattle.report.proofs.Figures.{place_of, currency-at}
use Rattle.report.proofs.Demand.{curve-is, currency-is}
use Rattle.page.specs.PageRead.{amount_at, currencies_below}
use Rattle.page.proofs.PageRead.{nominal-read, curve-read, currency-read}
use Rattle.statement.specs.Entry.{page_of}
use Rattle.statement.specs.PageFigures.{currency_line_of, PageReads}
use Rattle.statement.proofs.Limits.{page-limits}

module _ (s : List ℕ) (used : ℕ) (b : Sound s used) (rest : List ℕ) where
  nominal-of : (i : ℕ) → i < trade_count s → amount_at (page_of s) (1 + i) 58 ≡ pos (fields_of (record_at s i)).amounts.nominal
  unfolding page_of
  nominal-of i l =
      nominal-read (curve_count s) (margin_in s) (records s) (page-limits s used b) i (omega (arith, length-records s))
      ∙ ap (λ (r : List ℕ). pos (fields_of r).amounts.nominal) (record_of s i l)

  -- the curve of an id, which stands a place before it
  module _ (k : ℕ) (least : 1 ≤ k) (most : k ≤ curve_count s) where
    curve-of : get_or (margin_in s).curves (k - 1) no_curve ≡ curve_shown (report_bytes (margin_in s) ++ rest) k
    curve-of = place_of s used b k least most ∙ sym (curve-is s used b rest k least most)

    curve-amount : (j : ℕ) → j < 3
        → let c = curve_shown (report_bytes (margin_in s) ++ rest) k in amount_at (page_of s) (trade_count s + k) (14 + 22 * j) ≡ get_or (c.base ∷ c.worstloss ∷ pos c.tolerance ∷ []) j (pos 0)
    unfolding page_of
    curve-amount j l =
        let e : trade_count s + k ≡ 1 + length (records s) + (k - 1) = omega (arith, length-records s) in
        ap (λ (line : ℕ). amount_at (page_of s) line (14 + 22 * j)) e
        ∙ curve-read (curve_count s) (margin_in s) (records s) (page-limits s used b) (k - 1) (omega arith) j l
        ∙ ap (λ (c : CurveMargin). get_or (c.base ∷ c.worstloss ∷ pos c.tolerance ∷ []) j (pos 0)) curve-of

  module _ (c : ℕ) (least : 1 ≤ c) (most : c ≤ 3) (has : has_currency c (take (curve_count s) (margin_in s).curves) ≡ true) where
    currency-of : get_or (margin_in s).currencies (c - 1) no_currency ≡ currency_shown (report_bytes (margin_in s) ++ rest) c
    currency-of = currency-at s used b c least most no_currency ∙ sym (currency-is s used b rest c least most)

    currency-amount : (j : ℕ) → j < 3
        → let f = currency_shown (report_bytes (margin_in s) ++ rest) c in amount_at (page_of s) (currency_line_of s c) (14 + 22 * j) ≡ get_or (f.initial ∷ f.variation ∷ f.total ∷ []) j (pos 0)
    unfolding page_of
    currency-amount j l =
        let below = currencies_below (take (curve_count s) (margin_in s).curves) c in
        let e : currency_line_of s c ≡ 1 + length (records s) + curve_count s + below = omega (arith, length-records s) in
        ap (λ (line : ℕ). amount_at (page_of s) line (14 + 22 * j)) e
        ∙ currency-read (curve_count s) (margin_in s) (records s) (page-limits s used b) c least most has j l
        ∙ ap (λ (f : CurrencyMargin). get_or (f.initial ∷ f.variation ∷ f.total ∷ []) j (pos 0)) currency-of

pub page-reads : (s : List ℕ) (used : ℕ) → blocks_verdict s used ≡ Ok tt → (rest : List ℕ) → PageReads s rest
page-reads s used ok rest =
    let b = sound s used ok in
    record {
      nominal = nominal-of s used b rest;
      base = λ k l m. curve-amount s used b rest k l m 0 (omega arith);
      worstloss = λ k l m. curve-amount s used b rest k l m 1 (omega arith);
      tolerance = λ k l m. curve-amount s used b rest k l m 2 (omega arith);
      initial = λ c l m has. currency-amount s used b rest c l m has 0 (omega arith);
      variation = λ c l m has. currency-amount s used b rest c l m has 1 (omega arith);
      total = λ c l m has. currency-amount s used b rest c l m has 2 (omega arith);
    }
