-- Slopes: a product with one, cut, is the quotient that it stands for; and their sizes.
use mathlib.Core.Path.{◌≡◌}
use Prim.Native.Nat.{ℕ, ◌+◌, ◌*◌, ◌/◌, ◌≤◌, ◌<◌}
use native.Mathlib.Nat.{mul-le-mul_right, le_of_mul-le-mul_right, div-mul-le_self, lt-div-mul-add, div-le_self, div-eq_of_lt-le}
use native.Mathlib.Omega.{arith}
use Rattle.curve.specs.Limits.{highest_rate}
use Rattle.estimate.specs.Lines.{line_scale, slope_of, steepest}

-- ---- rounded up and in parts of n, the slope is exact for g days of a run of days, where n is at least (g + 1) * run

-- with q and s for the two quotients
module _ (n way g run q s : ℕ) (some : 0 < run) (room : (g + 1) * run ≤ n) where
  low : q * run ≤ way * g → way * n < s * run + run → q * n ≤ (s + 1) * g
  low h k =
      let k' : way * n ≤ s * run + run = omega arith in
      le_of_mul-le-mul_right {k = run} (omega (arith, mul-le-mul_right n h, mul-le-mul_right g k')) some

  high : way * g < q * run + run → s * run ≤ way * n → (s + 1) * g < (q + 1) * n
  high h k =
      let h' : way * g + 1 ≤ q * run + run = omega arith in
      let l : ((s + 1) * g + 1) * run ≤ (q + 1) * n * run = omega (arith, mul-le-mul_right n h', mul-le-mul_right g k) in
      omega (arith, le_of_mul-le-mul_right l some)

pub slope-exact : (n way g run : ℕ) → 0 < run → (g + 1) * run ≤ n → (way * n / run + 1) * g / n ≡ way * g / run
slope-exact n way g run some room =
    div-eq_of_lt-le n
    (low n way g run (way * g / run) (way * n / run) some room (div-mul-le_self (way * g) run) (lt-div-mul-add some))
    (high n way g run (way * g / run) (way * n / run) some room (lt-div-mul-add some) (div-mul-le_self (way * n) run))

-- ---- the size of a slope

pub slope-size : (way run : ℕ) → way ≤ highest_rate → slope_of way run ≤ steepest
unfolding slope_of line_scale
slope-size way run k = omega (arith, div-le_self (way * 134217728) run)
