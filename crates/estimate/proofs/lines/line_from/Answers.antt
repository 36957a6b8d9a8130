-- `estimate::lines::line_from` meets its contract.
use Prim.Native.Nat.{ℕ, ◌+◌, ◌*◌, ◌≤◌}
use native.Mathlib.Omega.{arith}
use Rattle.laws.proofs.Signed.{fits, read_is, back}
use Rattle.estimate.specs.Lines.{line_scale}
use Rattle.estimate.proofs.LineCode.{code-start, start-size}
use Rattle.estimate.proofs.lines.line_from.Goals as goal
use Rattle.estimate.proofs.lines.line_from.Goals.{Start}

-- where the line stands on node a's day
module _ (s : Start) where
  abbrev high : ℕ
  high = s.args.a.rate * 134217728 + s.args.above

  high-most : high ≤ 140000000000000
  unfolding line_scale
  high-most = omega (arith, s.requires.0.rate, s.requires.1)

pub overflow_sub-result : goal.overflow_sub-result
overflow_sub-result c =
    let a = c.args in
    rw (code-start a.slope a.a.day c.requires.2 c.requires.0.day (high (goal.at.overflow_sub-result c).Start) (high-most (goal.at.overflow_sub-result c).Start))
    (fits _ (start-size a.slope a.a.day c.requires.2 c.requires.0.day (high (goal.at.overflow_sub-result c).Start) (high-most (goal.at.overflow_sub-result c).Start)))

pub returns : goal.returns
unfolding line_scale
returns c =
    let a = c.args in
    let size = start-size a.slope a.a.day c.requires.2 c.requires.0.day (high (goal.at.returns c).Start) (high-most (goal.at.returns c).Start) in
    rw (code-start a.slope a.a.day c.requires.2 c.requires.0.day (high (goal.at.returns c).Start) (high-most (goal.at.returns c).Start), read_is _ size, back a.slope c.ranges.slope.sfits)

pub overflow_add-result : goal.overflow_add-result
overflow_add-result c = omega (arith, high-most (goal.at.overflow_add-result c).Start)

pub overflow_cast-result : goal.overflow_cast-result
overflow_cast-result c = fits _ (omega (arith, high-most (goal.at.overflow_cast-result c).Start))
