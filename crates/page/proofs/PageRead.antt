-- A reader of a page gets its amounts back: of each column that the page has, the amount is the one that was written.
use mathlib.Core.Path.{◌≡◌, ap, ◌∙◌}
use mathlib.Core.Bool.{Bool, true}
use mathlib.Core.List.{List, [], ◌∷◌, ◌++◌, append_assoc}
use Prim.Native.Nat.{ℕ, zero, suc, ◌+◌, ◌-◌, ◌*◌, ◌≤◌, ◌<◌}
use native.Mathlib.Nat.{zero-add}
use native.Mathlib.Omega.{arith}
use lib.IntN.{pos}
use lib.ListN.{length, get_or, take, length-append}
use lib.Seq.{length-take-le, get_or-take}
use Rattle.layout.specs.Bytes.{part}
use Rattle.layout.proofs.Bytes.{part-behind}
use Rattle.decimal.specs.Product.{unit}
use Rattle.record.specs.Bytes.{fields_of}
use Rattle.margin.specs.declared.CurveMargin.{CurveMargin}
use Rattle.margin.specs.declared.CurrencyMargin.{CurrencyMargin}
use Rattle.margin.specs.declared.Margin.{Margin}
use Rattle.margin.specs.Margins.{no_curve, no_currency, has_currency}
use Rattle.text.specs.Text.{letters, lines_of}
use Rattle.text.proofs.Digits.{length-letters}
use Rattle.text.proofs.Lines.{part-within, part-lines}
use Rattle.text.specs.Reading.{read_amount}
use Rattle.page.specs.Line.{title_line, trade_left, trade_line, record_line}
use Rattle.page.proofs.LineLengths.{length-title-line, trade-left-fits, length-trade-line, length-trade-lines}
use Rattle.page.proofs.LineRead.{line-amount}
use Rattle.page.specs.Page.{curve_left, curve_line, currency_line, currency_part, currency_part_of, page, one_if}
use Rattle.page.specs.Limits.{CurrencyLinesLimits, PageLimits}
use Rattle.page.specs.PageRead.{amount_at, currencies_below}
use Rattle.page.proofs.Lengths.{curve-left-fits, length-curve-line, length-curve-lines, length-currency-line, length_part}

-- ---- the lines of currencies

-- the part of a currency that a curve has is its line
has-line : (c : ℕ) (m : CurrencyMargin) (has : Bool) → has ≡ true → currency_part has c m ≡ currency_line c m
unfolding currency_part
has-line c m has e = rw e

module _ (curves : List CurveMargin) (a b d : CurrencyMargin) (limits : CurrencyLinesLimits (a ∷ b ∷ d ∷ [])) (o : ℕ) (r : o + 22 ≤ 81) where
  abbrev lira : List ℕ
  lira = currency_part_of curves 1 a

  abbrev dollar : List ℕ
  dollar = currency_part_of curves 2 b

  abbrev euro : List ℕ
  euro = currency_part_of curves 3 d

  length-lira : length lira ≡ 81 * one_if (has_currency 1 curves)
  length-lira = length_part 1 a (limits.each 0 (omega arith)) (has_currency 1 curves)

  length-dollar : length dollar ≡ 81 * one_if (has_currency 2 curves)
  length-dollar = length_part 2 b (limits.each 1 (omega arith)) (has_currency 2 curves)

  lira-part : has_currency 1 curves ≡ true → part (lira ++ (dollar ++ (euro ++ []))) (81 * 0 + o) 22 ≡ part (currency_line 1 a) o 22
  lira-part has =
      let e = has-line 1 a (has_currency 1 curves) has in
      let long : length lira ≡ 81 = ap length e ∙ length-currency-line 1 a (limits.each 0 (omega arith)) in
      let z : 81 * 0 + o ≡ o = omega arith in
      rw z (part-within lira (dollar ++ (euro ++ [])) o 22 (omega (arith, long))) ∙ ap (λ (t : List ℕ). part t o 22) e

  dollar-part : has_currency 2 curves ≡ true → part (lira ++ (dollar ++ (euro ++ []))) (81 * (one_if (has_currency 1 curves) + 0) + o) 22 ≡ part (currency_line 2 b) o 22
  dollar-part has =
      let e = has-line 2 b (has_currency 2 curves) has in
      let long : length dollar ≡ 81 = ap length e ∙ length-currency-line 2 b (limits.each 1 (omega arith)) in
      let z : 81 * (one_if (has_currency 1 curves) + 0) + o ≡ length lira + o = omega (arith, length-lira) in
      rw z (part-behind lira (dollar ++ (euro ++ [])) o 22) ∙ part-within dollar (euro ++ []) o 22 (omega (arith, long)) ∙ ap (λ (t : List ℕ). part t o 22) e

  euro-part : has_currency 3 curves ≡ true → part (lira ++ (dollar ++ (euro ++ []))) (81 * (one_if (has_currency 2 curves) + (one_if (has_currency 1 curves) + 0)) + o) 22 ≡ part (currency_line 3 d) o 22
  euro-part has =
      let e = has-line 3 d (has_currency 3 curves) has in
      let long : length euro ≡ 81 = ap length e ∙ length-currency-line 3 d (limits.each 2 (omega arith)) in
      let z : 81 * (one_if (has_currency 2 curves) + (one_if (has_currency 1 curves) + 0)) + o ≡ length lira + (length dollar + o) = omega (arith, length-lira, length-dollar) in
      rw z (part-behind lira (dollar ++ (euro ++ [])) (length dollar + o) 22)
      ∙ part-behind dollar (euro ++ []) o 22
      ∙ part-within euro [] o 22 (omega (arith, long))
      ∙ ap (λ (t : List ℕ). part t o 22) e

currency-part : (curves : List CurveMargin) (l : List CurrencyMargin) → length l ≡ 3 → CurrencyLinesLimits l → (c : ℕ) → 1 ≤ c → c ≤ 3 → has_currency c curves ≡ true → (o : ℕ) → o + 22 ≤ 81
    → part (lines_of (currency_part_of curves) 1 l) (81 * currencies_below curves c + o) 22 ≡ part (currency_line c (get_or l (c - 1) no_currency)) o 22
unfolding lines_of
currency-part curves (a ∷ b ∷ d ∷ []) e h (suc zero) k m has o r = lira-part curves a b d h o r has
currency-part curves (a ∷ b ∷ d ∷ []) e h (suc (suc zero)) k m has o r = dollar-part curves a b d h o r has
currency-part curves (a ∷ b ∷ d ∷ []) e h (suc (suc (suc zero))) k m has o r = euro-part curves a b d h o r has
currency-part curves (a ∷ b ∷ d ∷ []) e h zero k m has o r = absurd (omega arith)
currency-part curves (a ∷ b ∷ d ∷ []) e h (suc (suc (suc (suc c)))) k m has o r = absurd (omega arith)
currency-part curves [] e h c k m has o r = absurd (omega arith)
currency-part curves (a ∷ []) e h c k m has o r = absurd (omega arith)
currency-part curves (a ∷ b ∷ []) e h c k m has o r = absurd (omega arith)
currency-part curves (a ∷ b ∷ d ∷ f ∷ l) e h c k m has o r = absurd (omega arith)

-- ---- a page

module _ (n : ℕ) (m : Margin) (records : List (List ℕ)) (h : PageLimits n m records) where
  abbrev title : List ℕ
  title = title_line m.account

  abbrev trades : List ℕ
  trades = lines_of record_line 0 records

  abbrev curves : List ℕ
  curves = lines_of curve_line 1 (take n m.curves)

  abbrev currencies : List ℕ
  currencies = lines_of (currency_part_of (take n m.curves)) 1 m.currencies

  -- the nominal of trade i, from 0
  pub nominal-read : (i : ℕ) → i < length records → amount_at (page n m records) (1 + i) 58 ≡ pos (fields_of (get_or records i [])).amounts.nominal
  unfolding page amount_at trade_line unit
  nominal-read i l =
      let f = fields_of (get_or records i []) in
      let limits = h.trades i l in
      let whole : title ++ trades ++ curves ++ currencies ≡ title ++ (trades ++ (curves ++ currencies)) =
      append_assoc (title ++ trades) curves currencies ∙ append_assoc title trades (curves ++ currencies) in
      let at : 81 * (1 + i) + 58 ≡ length title + (i * 81 + 58) = omega (arith, length-title-line m.account) in
      let text : part (title ++ trades ++ curves ++ currencies) (81 * (1 + i) + 58) 22 ≡ part (trade_line i f) 58 22 =
      rw (whole, at)
      (part-behind title (trades ++ (curves ++ currencies)) (i * 81 + 58) 22
      ∙ part-within trades (curves ++ currencies) (i * 81 + 58) 22 (omega (arith, length-trade-lines records h.trades))
      ∙ part-lines record_line 81 records [] 0 (λ k b. length-trade-line (0 + k) (fields_of (get_or records k [])) (h.trades k b)) i 58 22 l (omega arith)
      ∙ ap (λ (k : ℕ). part (record_line k (get_or records i [])) 58 22) (zero-add i)) in
      ap read_amount text
      ∙ line-amount (trade_left i f) (pos f.amounts.nominal ∷ []) (omega (arith, limits.nominal), tt) (omega (arith, trade-left-fits i f limits)) 0 (pos 0) (omega arith)

  -- amount j of curve i, both from 0: base, worst loss, tolerance
  pub curve-read : (i : ℕ) → i < n → (j : ℕ) → j < 3
      → let c = get_or m.curves i no_curve in amount_at (page n m records) (1 + length records + i) (14 + 22 * j) ≡ get_or (c.base ∷ c.worstloss ∷ pos c.tolerance ∷ []) j (pos 0)
  unfolding page amount_at curve_line
  curve-read i l j b =
      let c = get_or m.curves i no_curve in
      let most : n ≤ length m.curves = omega (arith, h.places, h.curves.most) in
      let limits = h.curves.each i l in
      let few : 1 + i ≤ 8 = omega (arith, h.curves.most) in
      let o = 14 + 22 * j in
      let all = length-take-le n m.curves most in
      let lines : length (title ++ trades) ≡ 81 * (1 + length records) = length-append title trades ∙ omega (arith, length-title-line m.account, length-trade-lines records h.trades) in
      let at : 81 * (1 + length records + i) + o ≡ length (title ++ trades) + (i * 81 + o) = omega (arith, lines) in
      let each : (k : ℕ) → k < length (take n m.curves) → length (curve_line (1 + k) (get_or (take n m.curves) k no_curve)) ≡ 81 =
      λ k d. rw (get_or-take n m.curves k no_curve (omega (arith, all)))
      (length-curve-line (1 + k) (get_or m.curves k no_curve) (omega (arith, h.curves.most, all)) (h.curves.each k (omega (arith, all)))) in
      let text : part (title ++ trades ++ curves ++ currencies) (81 * (1 + length records + i) + o) 22 ≡ part (curve_line (1 + i) c) o 22 =
      rw (append_assoc (title ++ trades) curves currencies, at)
      (part-behind (title ++ trades) (curves ++ currencies) (i * 81 + o) 22
      ∙ part-within curves currencies (i * 81 + o) 22 (omega (arith, length-curve-lines n m.curves h.curves most))
      ∙ part-lines curve_line 81 (take n m.curves) no_curve 1 each i o 22 (omega (arith, all)) (omega arith)
      ∙ ap (λ (x : CurveMargin). part (curve_line (1 + i) x) o 22) (get_or-take n m.curves i no_curve l)) in
      ap read_amount text
      ∙ line-amount (curve_left (1 + i) c) (c.base ∷ c.worstloss ∷ pos c.tolerance ∷ []) (limits.base, (limits.worstloss, (omega (arith, limits.tolerance), tt))) (omega (arith, curve-left-fits (1 + i) c few limits)) j (pos 0) b

  -- amount j of a currency that a curve has: initial, variation, total
  pub currency-read : (c : ℕ) → 1 ≤ c → c ≤ 3 → has_currency c (take n m.curves) ≡ true → (j : ℕ) → j < 3
      → let f = get_or m.currencies (c - 1) no_currency in
      amount_at (page n m records) (1 + length records + n + currencies_below (take n m.curves) c) (14 + 22 * j) ≡ get_or (f.initial ∷ f.variation ∷ f.total ∷ []) j (pos 0)
  unfolding page amount_at currency_line
  currency-read c k l has j b =
      let f = get_or m.currencies (c - 1) no_currency in
      let limits = h.currencies.each (c - 1) (omega arith) in
      let before = title ++ trades ++ curves in
      let below = currencies_below (take n m.curves) c in
      let o = 14 + 22 * j in
      let front : length (title ++ trades) ≡ 81 * (1 + length records) = length-append title trades ∙ omega (arith, length-title-line m.account, length-trade-lines records h.trades) in
      let lines : length before ≡ 81 * (1 + length records + n) =
      length-append (title ++ trades) curves ∙ omega (arith, front, length-curve-lines n m.curves h.curves (omega (arith, h.places, h.curves.most))) in
      let at : 81 * (1 + length records + n + below) + o ≡ length before + (81 * below + o) = omega (arith, lines) in
      let text : part (before ++ currencies) (81 * (1 + length records + n + below) + o) 22 ≡ part (currency_line c f) o 22 =
      rw at (part-behind before currencies (81 * below + o) 22) ∙ currency-part (take n m.curves) m.currencies h.three h.currencies c k l has o (omega arith) in
      ap read_amount text
      ∙ line-amount (letters c) (f.initial ∷ f.variation ∷ f.total ∷ []) (limits.initial, (limits.variation, (limits.total, tt))) (omega (arith, length-letters c)) j (pos 0) b
