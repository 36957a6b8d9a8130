-- Every line of a page is 81 bytes: of any left part and amounts, of an account and of a trade.
use mathlib.Core.Path.{◌≡◌, refl}
use mathlib.Core.List.{List, [], ◌∷◌, flat_map}
use Prim.Native.Nat.{ℕ, ◌+◌, ◌*◌, ◌≤◌, ◌<◌}
use native.Mathlib.Omega.{arith}
use lib.IntN.{ℤ}
use lib.ListN.{length, get_or, length-append}
use Rattle.laws.specs.All.{All}
use Rattle.decimal.specs.Product.{unit}
use Rattle.record.specs.declared.Fields.{Fields}
use Rattle.record.specs.Bytes.{fields_of}
use Rattle.text.specs.Text.{ascii, decimal_of, lines_of}
use Rattle.text.specs.Columns.{amount_column}
use Rattle.text.proofs.Digits.{length-decimal, length-below}
use Rattle.text.proofs.Amounts.{length-blanks, length-amount, length-column}
use Rattle.text.proofs.Lines.{length-lines}
use Rattle.page.specs.Line.{page_line, title_line, line_day, trade_left, trade_line, record_line}
use Rattle.page.specs.LineLimits.{AmountFits, TradeLineLimits}

-- ---- numbers of few digits, for the bounds of places

pub one-place : (n : ℕ) → n < 10 → length (decimal_of n) ≤ 1
one-place n h = length-below 0 n (omega arith)

pub three-places : (n : ℕ) → n < 1000 → length (decimal_of n) ≤ 3
three-places n h = length-below 2 n (omega arith)

pub ruleset places = (length-decimal, one-place, three-places, length-blanks)

-- ---- a line

length-columns : (amounts : List ℤ) → All AmountFits amounts → length (flat_map amount_column amounts) ≡ 22 * length amounts
unfolding flat_map
length-columns [] h = refl
length-columns (z ∷ amounts) h =
    omega (arith, length-append (amount_column z) (flat_map amount_column amounts), length-column z (omega (arith, length-amount z h.0)), length-columns amounts h.1)

pub length-line : (left : List ℕ) (amounts : List ℤ) → All AmountFits amounts → 22 * length amounts + length left ≤ 80 → length (page_line left amounts) ≡ 81
unfolding page_line ascii
length-line left amounts h l =
    simp (length-append, length-blanks) (omega (arith, length-columns amounts h))

-- ---- what stands from the left leaves the amounts their columns

pub length-title-line : (account : ℕ) → length (title_line account) ≡ 81
unfolding title_line ascii
length-title-line account =
    length-line _ [] tt (simp length-append (omega (arith, length-decimal account)))

module _ (position : ℕ) (f : Fields) (h : TradeLineLimits f) where
  pub length-kind : length (decimal_of f.form.kind) ≤ 1
  length-kind = length-below 0 f.form.kind (omega (arith, h.kind))

  pub length-side : length (decimal_of f.form.side) ≤ 1
  length-side = length-below 0 f.form.side (omega (arith, h.side))

  -- in 58 columns, whatever the position
  pub trade-left-fits : length (trade_left position f) ≤ 58
  unfolding trade_left ascii
  trade-left-fits =
      simp length-append (omega (arith, length-decimal position, length-kind, length-side, length-decimal (line_day f)))

  pub length-trade-line : length (trade_line position f) ≡ 81
  unfolding trade_line unit
  length-trade-line = length-line (trade_left position f) _ (omega (arith, h.nominal), tt) (omega (arith, trade-left-fits))

pub length-trade-lines : (records : List (List ℕ)) → ((i : ℕ) → i < length records → TradeLineLimits (fields_of (get_or records i []))) → length (lines_of record_line 0 records) ≡ 81 * length records
length-trade-lines records h =
    let each = length-lines record_line 81 records [] 0 (λ i l. length-trade-line (0 + i) (fields_of (get_or records i [])) (h i l)) in
    omega (arith, each)
