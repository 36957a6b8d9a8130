-- `listing::put_currency_lines` meets its contract: what is written and what is left to write are together all.
use Rattle.std.proofs.Common.{◌≡◌, ℕ, ◌+◌, Bool, true, false, [], length, get_or, take, sym, ◌∙◌, arith, rules}
use Rattle.laws.proofs.Arrays.{length-mapped}
use Rattle.margin.specs.declared.CurrencyMargin.{CurrencyMargin}
use Rattle.margin.specs.Margins.{no_currency}
use Rattle.text.proofs.Lines.{lines_next, lines_none}
use Rattle.text.proofs.Writing.{text-all, text-next, text-none}
use Rattle.listing.specs.Listing.{currency_listed, currency_listed_if, currency_listed_in}
use Rattle.listing.proofs.put_currency_lines.Goals as goal
use Rattle.listing.proofs.put_currency_lines.Goals.{then-has_currency, else-has_currency}

module _ (has : Bool) (currency : ℕ) (m : CurrencyMargin) where
  shown : has ≡ true → currency_listed_if has currency m ≡ currency_listed currency m
  unfolding currency_listed_if
  shown e = rw e

  hidden : has ≡ false → currency_listed_if has currency m ≡ []
  unfolding currency_listed_if
  hidden e = rw e

pub loop-i-init : goal.loop-i-init
loop-i-init c = (omega arith, text-all _ _ _)

pub loop-i-preserved : goal.loop-i-preserved
loop-i-preserved c =
    let a = c.args in
    let i = c.loop-i.i in
    let this = get_or a.currencies i no_currency in
    let long : length a.currencies ≡ 3 = search (rules, length-mapped) in
    let next = lines_next (currency_listed_in (take a.count a.curves)) a.currencies i (i + 1) no_currency (omega arith) in
    let left = rw next at c.loop-i.invariant.1 in
    elim c.if-has_currency.branch [
      | then-has_currency w ↦
          let line = w.put_currency_line-next.ensures in
          let has = sym c.has_currency.ensures ∙ w.if-has_currency.true in
          rw (w.next-is, w.out-is) (omega (arith, line.upper_bound), text-next (rw (shown _ (i + 1) this has) at left) line.text_written)
      | else-has_currency w ↦
          let not = sym c.has_currency.ensures ∙ w.if-has_currency.false in
          rw (w.next-is, w.out-is) (omega arith, rw (hidden _ (i + 1) this not) at left)
    ]

pub returns : goal.returns
returns c =
    let a = c.args in
    let i = c.loop-i.i in
    let long : length a.currencies ≡ 3 = search (rules, length-mapped) in
    let none = lines_none (currency_listed_in (take a.count a.curves)) a.currencies i (i + 1) (omega arith) in
    record { text_written = text-none (rw none at c.loop-i.invariant.1); upper_bound = omega arith }
