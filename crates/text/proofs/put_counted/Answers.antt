-- `text::put_counted` meets its contract: the digits written, from the last on, and those of what is left are together all.
use Rattle.std.proofs.Common.{◌≡◌, ℕ, ◌+◌, ◌-◌, ◌/◌, ◌%◌, suc, sym, ap, ◌∙◌, arith, set}
use Rattle.layout.specs.Bytes.{put}
use Rattle.text.specs.Text.{digit}
use Rattle.text.proofs.Digits.{last_digits, digits-next, digits-none, last-all}
use Rattle.text.proofs.put_counted.Goals as goal

pub loop-place-init : goal.loop-place-init
loop-place-init c = let e : c.args.at + c.args.count - c.args.at ≡ c.args.count = omega arith in rw e

pub loop-place-preserved : goal.loop-place-preserved
loop-place-preserved c =
    let l = c.loop-place in
    let at = c.args.at in
    let k = l.place - 1 - at in
    let left : l.place - at ≡ suc k = omega arith in
    let last : at + k ≡ l.place - 1 = omega arith in
    l.invariant
    ∙ ap (λ (m : ℕ). put l.out at (last_digits m l.rest)) left
    ∙ digits-next l.out at k l.rest
    ∙ ap (λ (m : ℕ). put (set l.out m (digit (l.rest % 10))) at (last_digits k (l.rest / 10))) last

pub returns : goal.returns
returns c =
    let l = c.loop-place in
    let none : l.place - c.args.at ≡ 0 = omega arith in
    let all = rw (c.requires.0, last-all, none, digits-none) at l.invariant in
    record { bytes = sym all; place = rw c.requires.0 }
