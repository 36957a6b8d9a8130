-- `cheap::factor::exponent` meets its contract: what it reads of the tables is what the definition has, and all of it fits.
use mathlib.Core.Path.{◌≡◌, refl}
use Prim.Native.Nat.{ℕ, ◌+◌, ◌-◌, ◌*◌, ◌/◌, ◌%◌, ◌≤◌}
use native.Mathlib.Nat.{mul-le-mul}
use native.Mathlib.Omega.{arith}
use lib.ListN.{get_or}
use Rattle.logarithm.specs.Logarithms.{log_of, log_slope}
use Rattle.cheap.specs.Cheap.{bend, risen, cheap_log}
use Rattle.cheap.proofs.CheapLogs.{bent, bend-le, square_le, part-le, rise-le, cheap-log-le}
use Rattle.cheap.proofs.factor.exponent.Goals as goal
use Rattle.cheap.proofs.factor.exponent.Goals.{Start}

module _ (c : Start) where
  abbrev rate : ℕ
  rate = c.args.rate

  abbrev row : ℕ
  row = get_or c.args.tables.rows.now.logs (rate / 2048) 0

  abbrev rise : ℕ
  rise = rate % 2048 * get_or c.args.tables.rows.now.slopes (rate / 2048) 0

  abbrev part : ℕ
  part = rise / 2097152

  row_is : row ≡ log_of (rate / 2048)
  row_is = c.args.tables.logs_are (rate / 2048) (omega (arith, c.requires.0))

  slope-known : get_or c.args.tables.rows.now.slopes (rate / 2048) 0 ≡ log_slope (rate / 2048)
  slope-known = c.args.tables.slopes_are (rate / 2048) (omega (arith, c.requires.0))

  rise-few : rise ≤ 4609434217211
  rise-few = rw slope-known (rise-le (rate / 2048) (rate % 2048) (omega arith))

  part-few : part ≤ 2197952
  part-few = part-le rise part (bend rise) (bent rise rise-few)

  square-few : part * part ≤ 2197952 * part
  square-few = square_le rise part (bend rise) (bent rise rise-few)

  bend-few : part * part / 1024 ≤ rise
  unfolding bend
  bend-few = bend-le rise part (bend rise) (bent rise rise-few)

  log_is : row + (rise - part * part / 1024) ≡ cheap_log rate
  unfolding cheap_log risen bend
  log_is = rw (row_is, slope-known) refl

  log-few : row + (rise - part * part / 1024) ≤ 1564789514502464
  log-few = rw log_is (cheap-log-le rate c.requires.0)

  product_le : (row + (rise - part * part / 1024)) * c.args.day ≤ 1564789514502464 * 10950
  product_le = mul-le-mul log-few c.requires.1

pub overflow_mul-rise : goal.overflow_mul-rise
overflow_mul-rise c = omega (arith, rise-few (goal.at.overflow_mul-rise c).Start)

pub overflow_mul-bend : goal.overflow_mul-bend
overflow_mul-bend c = omega (arith, square-few (goal.at.overflow_mul-bend c).Start, part-few (goal.at.overflow_mul-bend c).Start)

pub overflow_sub-result : goal.overflow_sub-result
overflow_sub-result c = bend-few (goal.at.overflow_sub-result c).Start

pub overflow_add-result : goal.overflow_add-result
overflow_add-result c = omega (arith, log-few (goal.at.overflow_add-result c).Start)

pub overflow_mul-result : goal.overflow_mul-result
overflow_mul-result c = omega (arith, product_le (goal.at.overflow_mul-result c).Start)
