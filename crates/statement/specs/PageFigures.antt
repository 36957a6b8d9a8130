-- What a reader of the page has: each amount, by line and column, is the one that the report of the same book shows.
use Rattle.std.specs.Prelude.{◌≡◌, true, List, ◌++◌, ℕ, ◌+◌, ◌≤◌, ◌<◌, pos, take}
use Rattle.record.specs.Bytes.{fields_of}
use Rattle.book.specs.Parts.{curve_count, trade_count, record_at}
use Rattle.margin.specs.Margins.{has_currency}
use Rattle.report_block.specs.Report.{report_bytes}
use Rattle.report_block.specs.Shown.{curve_shown, currency_shown}
use Rattle.report.specs.Entry.{margin_in}
use Rattle.page.specs.PageRead.{amount_at, currencies_below}
use Rattle.statement.specs.Entry.{page_of}

-- the currencies' lines stand behind those of the curves
abbrev pub currency_line_of : List ℕ → ℕ → ℕ
currency_line_of s c = 1 + trade_count s + curve_count s + currencies_below (take (curve_count s) (margin_in s).curves) c

-- lines and columns from 0; the report with whatever lies behind it
pub record PageReads (s rest : List ℕ) : Type 0 where
  pub nominal : (i : ℕ) → i < trade_count s → amount_at (page_of s) (1 + i) 58 ≡ pos (fields_of (record_at s i)).amounts.nominal
  pub base : (k : ℕ) → 1 ≤ k → k ≤ curve_count s → amount_at (page_of s) (trade_count s + k) 14 ≡ (curve_shown (report_bytes (margin_in s) ++ rest) k).base
  pub worstloss : (k : ℕ) → 1 ≤ k → k ≤ curve_count s → amount_at (page_of s) (trade_count s + k) 36 ≡ (curve_shown (report_bytes (margin_in s) ++ rest) k).worstloss
  pub tolerance : (k : ℕ) → 1 ≤ k → k ≤ curve_count s → amount_at (page_of s) (trade_count s + k) 58 ≡ pos (curve_shown (report_bytes (margin_in s) ++ rest) k).tolerance
  pub initial : (c : ℕ) → 1 ≤ c → c ≤ 3 → has_currency c (take (curve_count s) (margin_in s).curves) ≡ true → amount_at (page_of s) (currency_line_of s c) 14 ≡ (currency_shown (report_bytes (margin_in s) ++ rest) c).initial
  pub variation : (c : ℕ) → 1 ≤ c → c ≤ 3 → has_currency c (take (curve_count s) (margin_in s).curves) ≡ true → amount_at (page_of s) (currency_line_of s c) 36 ≡ (currency_shown (report_bytes (margin_in s) ++ rest) c).variation
  pub total : (c : ℕ) → 1 ≤ c → c ≤ 3 → has_currency c (take (curve_count s) (margin_in s).curves) ≡ true → amount_at (page_of s) (currency_line_of s c) 58 ≡ (currency_shown (report_bytes (margin_in s) ++ rest) c).total
