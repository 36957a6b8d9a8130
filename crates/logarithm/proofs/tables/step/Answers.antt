-- `logarithm::tables::step` meets its contract: the parts fit (`Steps.antt`).
use Prim.Native.Nat.{ℕ, ◌+◌, ◌*◌, ◌/◌, ◌≤◌}
use native.Mathlib.Nat.{mul-le-mul, div-mul-le_self}
use native.Mathlib.Omega.{arith}
use Rattle.logarithm.specs.Logarithms.{scale, first_term}
use Rattle.logarithm.proofs.Steps.{first-le, a-le, b-le}
use Rattle.logarithm.proofs.tables.step.Goals as goal
use Rattle.logarithm.proofs.tables.step.Goals.{Start}

module _ (c : Start) where
  abbrev w : ℕ
  w = 4503599627370496 * c.args.j / (2 * c.args.m + c.args.j)

  abbrev a : ℕ
  a = w / 524288

  abbrev b : ℕ
  b = a * a / 64

  w_le : w ≤ 4606968482701
  unfolding first_term scale
  w_le = first-le c.args.m c.args.j c.requires.0 c.requires.2

  a-few : a ≤ 8787095
  a-few = a-le w a (div-mul-le_self w 524288) w_le

  b-few : b ≤ 1206453727172
  b-few = b-le a b (div-mul-le_self (a * a) 64) a-few

  square_le : a * a ≤ 8787095 * 8787095
  square_le = mul-le-mul a-few a-few

  product_le : b * a ≤ 1206453727172 * 8787095
  product_le = mul-le-mul b-few a-few

pub overflow_mul-b : goal.overflow_mul-b
overflow_mul-b c = omega (arith, square_le c)

pub overflow_mul-result : goal.overflow_mul-result
overflow_mul-result c = omega (arith, product_le c)

pub overflow_add-result : goal.overflow_add-result
overflow_add-result c = omega (arith, product_le c, w_le c)
