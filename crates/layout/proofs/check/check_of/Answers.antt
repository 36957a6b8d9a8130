-- `layout::check::check_of` meets its contract. The loop's invariant: the sum is that of the words passed.
use Rattle.std.proofs.Common.{◌≡◌, ap, ◌∙◌, arith}
use Rattle.layout.specs.Check.{words, check_of}
use Rattle.layout.proofs.check.check_of.Goals as goal

pub returns : goal.returns
unfolding check_of
returns c =
    let e : c.loop-i.i ≡ 127 = omega arith in
    c.loop-i.invariant ∙ ap (words _) e
