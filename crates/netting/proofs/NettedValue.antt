-- The value of netted flows at cheap factors is within the flows' deviation of their present values.
use mathlib.Core.Bool.{Bool}
use mathlib.Core.List.{List, [], ◌∷◌}
use Prim.Native.Nat.{ℕ, ◌+◌, ◌*◌, ◌≤◌, ◌<◌}
use native.Mathlib.Nat.{mul-le-mul_left, mul-le-mul_right, le_of_mul-le-mul_right, lt-div-mul-add, zero-add}
use native.Mathlib.Omega.{arith}
use lib.Dec.{lit<}
use lib.IntN.{ℤ, pos, ◌+ℤ◌, +ℤ_idl}
use lib.ListN.{length, length-set, length-replicate}
use Rattle.laws.specs.Distance.{Within}
use Rattle.laws.proofs.Integer.{int, plus, up_pos, down_pos}
use Rattle.decimal.specs.Product.{unit}
use Rattle.decimal.specs.HalfUp.{discounted}
use Rattle.decimal.proofs.Products.{unit-pos}
use Rattle.decimal.proofs.HalfUp.{discounted-low, discounted-high}
use Rattle.discount.specs.Discount.{factor, present_value}
use Rattle.discount.specs.declared.Flow.{Flow}
use Rattle.discount.specs.Flows.{signed, total, sum, flow_value}
use Rattle.cheap.specs.Cheap.{whole, cheap_factor, distance}
use Rattle.cheap.proofs.Powers.{whole_pos}
use Rattle.cheap.proofs.Bound.{cheap-near}
use Rattle.netting.specs.Netting.{no_nets, net_on, net_with, netted, listed, worth, net_value, cheap_on, distance_up, moved, deviation, flow_deviation, OnDays}
use Rattle.netting.proofs.Worths.{worth-more}
use Rattle.netting.proofs.DaySums.{days_worth, listed-worth, none-days, days-changed}

-- ---- one flow

pub distance-up : (days : ℕ) → distance days ≤ distance_up days * unit
unfolding unit whole distance distance_up
distance-up days = omega arith

-- a flow's part in its day's value: p is its present value, a * f / u to the nearest; f / u and c / z are at most d / z apart
module _ (a f u c z d p : ℕ) (some : 0 < u) where
  pub not-over : p * (u * 2) ≤ a * f * 2 + u → f * z ≤ c * u + d * u → p * (z * 2) ≤ a * c * 2 + a * d * 2 + z
  not-over h k =
      let scaled : p * (z * 2) * u ≤ (a * c * 2 + a * d * 2 + z) * u = omega (arith, mul-le-mul_right z h, mul-le-mul_left a k) in
      le_of_mul-le-mul_right scaled some

  pub not-under : a * f * 2 < p * (u * 2) + u → c * u ≤ f * z + d * u → a * c * 2 ≤ p * (z * 2) + a * d * 2 + z
  not-under h k =
      let first : a * f * 2 ≤ p * (u * 2) + u = omega arith in
      let scaled : a * c * 2 * u ≤ (p * (z * 2) + a * d * 2 + z) * u = omega (arith, mul-le-mul_right z first, mul-le-mul_left a k) in
      le_of_mul-le-mul_right scaled some

module _ (a r days : ℕ) (l : r ≤ 1000000) (k : days ≤ 10950) where
  -- what was found is no more than what `moved` says
  covered : a * distance_up days * 2 + 3 * whole ≤ moved a days
  unfolding moved
  covered = omega arith

  room : a * distance_up days * 2 + 3 * whole < (deviation a days + 1) * (whole * 2)
  unfolding deviation
  room = omega (arith, covered, lt-div-mul-add {a = moved a days} {b = 2 * whole} (omega (arith, whole_pos)))

  pub flow-within : (x : ℤ) (s : Bool)
      → Within (worth (cheap_factor r days) (x +ℤ signed s a)) (worth (cheap_factor r days) x +ℤ signed s (present_value a r days)) (deviation a days)
  unfolding present_value
  flow-within x s =
      let f = factor r days in
      let c = cheap_factor r days in
      let d = distance_up days in
      let p = discounted a f in
      let close = cheap-near r days l k in
      worth-more c a p (a * d * 2) (deviation a days)
      (not-over a f unit c whole d p unit-pos (discounted-low a f) (omega (arith, close.above, distance-up days)))
      (not-under a f unit c whole d p unit-pos (discounted-high a f) (omega (arith, close.below, distance-up days)))
      room x s

-- ---- all flows

module _ (rate : ℕ → ℕ) (rated : (d : ℕ) → rate d ≤ 1000000) where
  flows-within : (fs : List Flow) (nets : List ℤ) → 10950 < length nets → OnDays fs
      → Within (days_worth (cheap_on rate) 0 (netted fs nets)) (days_worth (cheap_on rate) 0 nets +ℤ total (flow_value rate) fs) (sum flow_deviation fs)
  unfolding net_with total sum
  flows-within [] nets l h = let z = days_worth (cheap_on rate) 0 nets in omega (int, plus z (pos 0), up_pos 0, down_pos 0)
  flows-within (f ∷ fs) nets l h =
      let d = f.day in
      let x = net_on nets d in
      let y = x +ℤ signed f.received f.amount in
      let v = signed f.received (flow_value rate f) in
      let was = days_worth (cheap_on rate) 0 nets in
      let now = days_worth (cheap_on rate) 0 (net_with nets f) in
      let rest = total (flow_value rate) fs in
      let one : Within now (was +ℤ v) (flow_deviation f) =
      days-changed (cheap_on rate) 0 nets d y v (flow_deviation f) (omega (arith, h.0)) (rw zero-add (flow-within f.amount (rate d) d (rated d) h.0 x f.received)) in
      let others = flows-within fs (net_with nets f) (rw length-set l) h.1 in
      omega (int, one, others, plus was v, plus now rest, plus v rest, plus was (v +ℤ rest))

  pub netted-within : (fs : List Flow) → OnDays fs
      → Within (net_value (cheap_on rate) (netted fs no_nets) (listed (netted fs no_nets))) (total (flow_value rate) fs) (sum flow_deviation fs)
  netted-within fs h =
      let all = flows-within fs no_nets (rw length-replicate (lit< tt)) h in
      rw (listed-worth (cheap_on rate) (netted fs no_nets)) (rw (none-days, +ℤ_idl) at all)
