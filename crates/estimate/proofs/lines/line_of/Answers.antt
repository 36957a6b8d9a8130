-- `estimate::lines::line_of` meets its contract.
use borrow.Author.Tests.{le-leb, lt-leb}
use mathlib.Core.Path.{◌∙◌, ap}
use Prim.Native.Nat.{ℕ, ◌≤◌}
use native.Mathlib.Omega.{arith}
use lib.IntN.{ℤ, pos, neg_ℤ}
use Rattle.laws.proofs.Signed.{fits}
use Rattle.estimate.specs.Lines.{line_scale, line_from, rising, falling, line_of, steepest}
use Rattle.estimate.proofs.Slopes.{slope-size}
use Rattle.estimate.proofs.LineCode.{code_up, down-size, code-down, down-read}
use Rattle.estimate.proofs.lines.line_of.Goals as goal
use Rattle.estimate.proofs.lines.line_of.Goals.{After-slope-down, After-slope-up, Else-a-b, Start, Then-a-b}

-- it rises
module _ (c : After-slope-up) where
  up-most : c.slope-up.result ≤ steepest
  up-most = rw c.slope-up.ensures (slope-size _ _ (omega (arith, c.requires.to.rate)))

pub line_from-requires : goal.line_from-requires
unfolding line_scale
line_from-requires c = (c.requires.from, omega arith, rw (code_up _ (up-most c)) (up-most c))

pub returns-then-a-b : goal.returns-then-a-b
unfolding line_of rising
returns-then-a-b c =
    let a = c.args in
    rw (le-leb _ _ c.if-a-b.true)
    (c.line_from.ensures ∙ ap (λ (z : ℤ). line_from a.a 0 z) (code_up _ (up-most (goal.at.returns-then-a-b c).After-slope-up) ∙ ap pos c.slope-up.ensures))

-- it falls
module _ (c : After-slope-down) where
  down-most : c.slope-down.result ≤ steepest
  down-most = rw c.slope-down.ensures (slope-size _ _ (omega (arith, c.requires.from.rate)))

pub overflow_sub-down : goal.overflow_sub-down
overflow_sub-down c =
    rw (code-down _ (down-most c)) (fits _ (omega (arith, down-size _ (down-most c))))

pub line_from-requires-2 : goal.line_from-requires-2
unfolding line_scale
line_from-requires-2 c =
    (c.requires.from, omega arith, rw (down-read _ (down-most c)) (down-size _ (down-most c)))

pub returns : goal.returns
unfolding line_of falling line_scale
returns c =
    let a = c.args in
    rw (lt-leb _ _ c.if-a-b.false)
    (c.line_from-2.ensures ∙ ap (λ (z : ℤ). line_from a.a 134217727 z) (down-read _ (down-most (goal.at.returns c).After-slope-down) ∙ ap (λ (n : ℕ). neg_ℤ (pos n)) c.slope-down.ensures))

pub overflow_cast-up : goal.overflow_cast-up
overflow_cast-up c = fits _ (omega (arith, up-most c))

pub overflow_cast-down : goal.overflow_cast-down
overflow_cast-down c = fits _ (omega (arith, down-most c))
