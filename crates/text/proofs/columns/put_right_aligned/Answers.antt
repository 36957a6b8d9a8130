-- `text::columns::put_right_aligned` meets its contract: blanks, the minus, the amount, together as many characters as there are columns.
use Rattle.std.proofs.Common.{◌≡◌, ℕ, ◌-◌, ◌+◌, ◌∷◌, length, nat_abs, ap, arith}
use Rattle.layout.proofs.Signed.{code_read, natural-of}
use Rattle.text.specs.Columns.{money_text, right_aligned}
use Rattle.text.proofs.Digits.{sign-negative, sign-natural}
use Rattle.text.proofs.Amounts.{length-money}
use Rattle.text.proofs.Writing.{written_byte, and_then}
use Rattle.text.proofs.columns.put_right_aligned.Goals as goal

pub returns-then-v-lt0-clause-text_written : goal.returns-then-v-lt0-clause-text_written
unfolding right_aligned
returns-then-v-lt0-clause-text_written c =
    let v = c.ranges.v in
    let size_is = rw (code_read _ v) at c.size_of-size.ensures.value in
    let counted = c.digit_count-digits in
    let long : length (money_text (nat_abs c.args.v)) ≡ counted.result + 3 = omega (arith, ap (λ (n : ℕ). length (money_text n)) size_is, counted.ensures, length-money c.size_of-size.result) in
    let left : c.args.width - length (45 ∷ money_text (nat_abs c.args.v)) ≡ c.args.width - 4 - counted.result = omega (arith, long) in
    rw (sign-negative money_text c.args.v (rw (code_read _ v) at c.if-v-lt0.true), left)
    (and_then c.put_blanks-minus.ensures (and_then (written_byte _ _ 45) (rw size_is at c.put_money.ensures)))

pub returns-clause-text_written : goal.returns-clause-text_written
unfolding right_aligned
returns-clause-text_written c =
    let v = c.ranges.v in
    let size_is = rw (code_read _ v) at c.size_of-size.ensures.value in
    let counted = c.digit_count-digits in
    let long : length (money_text (nat_abs c.args.v)) ≡ counted.result + 3 = omega (arith, ap (λ (n : ℕ). length (money_text n)) size_is, counted.ensures, length-money c.size_of-size.result) in
    let left : c.args.width - length (money_text (nat_abs c.args.v)) ≡ c.args.width - 3 - counted.result = omega (arith, long) in
    rw (sign-natural money_text c.args.v (natural-of _ v c.if-v-lt0.false).0, left) (and_then c.put_blanks-first.ensures (rw size_is at c.put_money-2.ensures))
