-- `text::digit_count` meets its contract.
use Rattle.std.proofs.Common.{◌≡◌, ℕ, zero, suc, max, length, sym, ◌∙◌, arith}
use Rattle.text.specs.Text.{decimal_of}
use Rattle.text.proofs.Digits.{length-between}
use Rattle.text.proofs.Amounts.{one-digit}
use Rattle.text.proofs.digit_count.Goals as goal

-- 0 has as many as 1
as_one : (n : ℕ) → length (decimal_of (max n 1)) ≡ length (decimal_of n)
as_one zero = one-digit 1 (omega arith) ∙ sym (one-digit 0 (omega arith))
as_one (suc n) = let e : max (suc n) 1 ≡ suc n = omega arith in rw e

pub returns : goal.returns
returns c =
    let k = c.ilog10 in
    sym (sym (as_one c.args.n) ∙ rw (← c.max.ensures) (length-between k.result c.max.result k.ensures.power_le k.ensures.next_power_gt k.ensures.bound))
