-- `page::put_currencies` meets its contract: what is written and what is left to write are together all.
use Rattle.std.proofs.Common.{◌≡◌, ℕ, ◌+◌, Bool, true, false, [], length, get_or, take, drop, sym, ◌∙◌, arith, rules}
use Rattle.laws.proofs.Arrays.{length-mapped}
use Rattle.margin.specs.declared.CurrencyMargin.{CurrencyMargin}
use Rattle.margin.specs.Margins.{no_currency, has_currency}
use Rattle.text.specs.Text.{lines_of}
use Rattle.text.proofs.Lines.{lines_next, lines_none}
use Rattle.text.proofs.Writing.{text-all, text-room, text-next, text-none}
use Rattle.page.specs.Page.{currency_line, currency_part, currency_part_of}
use Rattle.page.proofs.Lengths.{length-currency-line}
use Rattle.page.proofs.put_currencies.Goals as goal
use Rattle.page.proofs.put_currencies.Goals.{then-has_currency, else-has_currency}

-- a line where a curve has the currency, and nothing where none has it
module _ (has : Bool) (currency : ℕ) (m : CurrencyMargin) where
  shown : has ≡ true → currency_part has currency m ≡ currency_line currency m
  unfolding currency_part
  shown e = rw e

  hidden : has ≡ false → currency_part has currency m ≡ []
  unfolding currency_part
  hidden e = rw e

pub loop-i-init : goal.loop-i-init
loop-i-init c = text-all _ _ _

-- in the loop: the next currency's part is left
pub put_currency_line-next-requires : goal.put_currency_line-next-requires
put_currency_line-next-requires c =
    let a = c.args in
    let i = c.loop-i.i in
    let curves = take a.count a.curves in
    let listed = currency_part_of curves in
    let this = get_or a.currencies i no_currency in
    let has : has_currency (i + 1) curves ≡ true = sym c.has_currency.ensures ∙ c.if-has_currency.true in
    let three : length a.currencies ≡ 3 = search (rules, length-mapped) in
    let next = lines_next listed a.currencies i (i + 1) no_currency (omega arith) ∙ rw (shown _ (i + 1) this has) in
    let room = text-room (currency_line (i + 1) this) (lines_of listed (i + 1 + 1) (drop (i + 1) a.currencies)) (rw next at c.loop-i.invariant) c.requires.currencies_in_bounds in
    omega (arith, length-currency-line (i + 1) this (c.requires.count_bound.1.each i (omega arith)), room)

pub loop-i-preserved : goal.loop-i-preserved
loop-i-preserved c =
    let a = c.args in
    let i = c.loop-i.i in
    let this = get_or a.currencies i no_currency in
    let three : length a.currencies ≡ 3 = search (rules, length-mapped) in
    let next = lines_next (currency_part_of (take a.count a.curves)) a.currencies i (i + 1) no_currency (omega arith) in
    let left = rw next at c.loop-i.invariant in
    elim c.if-has_currency.branch [
      | then-has_currency w ↦
          let has : has_currency (i + 1) (take a.count a.curves) ≡ true = sym c.has_currency.ensures ∙ w.if-has_currency.true in
          rw (w.next-is, w.out-is) (text-next (rw (shown _ (i + 1) this has) at left) w.put_currency_line-next.ensures)
      | else-has_currency w ↦
          let not = sym c.has_currency.ensures ∙ w.if-has_currency.false in
          rw (w.next-is, w.out-is) (rw (hidden _ (i + 1) this not) at left)
    ]

pub returns : goal.returns
returns c =
    let a = c.args in
    let i = c.loop-i.i in
    let three : length a.currencies ≡ 3 = search (rules, length-mapped) in
    let none = lines_none (currency_part_of (take a.count a.curves)) a.currencies i (i + 1) (omega arith) in
    text-none (rw none at c.loop-i.invariant)
