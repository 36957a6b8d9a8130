-- `fine::factor::exponent` meets its contract: what it reads of the table is what the definition has, and all of it fits.
use mathlib.Core.Path.{◌≡◌, refl}
use Prim.Native.Nat.{ℕ, ◌+◌, ◌*◌, ◌/◌, ◌%◌, ◌≤◌}
use native.Mathlib.Nat.{mul-le-mul}
use native.Mathlib.Omega.{arith}
use lib.ListN.{get_or}
use Rattle.discount.specs.Discount.{million}
use Rattle.logarithm.specs.Logarithms.{step}
use Rattle.fine.specs.Fine.{log_at}
use Rattle.fine.proofs.Bound.{log-at-le}
use Rattle.fine.proofs.factor.exponent.Goals as goal
use Rattle.fine.proofs.factor.exponent.Goals.{Start}

module _ (c : Start) (more : ℕ) (e : more ≡ step (1000000 + 2048 * (c.args.rate / 2048)) (c.args.rate % 2048)) where
  abbrev row : ℕ
  row = get_or c.args.tables.rows.now.logs (c.args.rate / 2048) 0

  log_is : row + more ≡ log_at c.args.rate
  unfolding log_at million
  log_is = rw (c.args.tables.logs_are (c.args.rate / 2048) (omega (arith, c.requires.0)), e) refl

  sum-le : row + more ≤ 1564789514502464
  sum-le = rw log_is (log-at-le c.args.rate c.requires.0)

  product_le : (row + more) * c.args.day ≤ 1564789514502464 * 10950
  product_le = mul-le-mul sum-le c.requires.1

pub overflow_add-result : goal.overflow_add-result
overflow_add-result c = omega (arith, sum-le (goal.at.overflow_add-result c).Start _ c.step-more.ensures)

pub overflow_mul-result : goal.overflow_mul-result
overflow_mul-result c = omega (arith, product_le (goal.at.overflow_mul-result c).Start _ c.step-more.ensures)
