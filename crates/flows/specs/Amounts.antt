-- The amounts of a trade's flows (document 01, "Flows").
use Rattle.std.specs.Prelude.{ℕ, ◌+◌, ◌-◌}
use Rattle.decimal.specs.HalfUp.{millionths_of, interest_on, withholding_on, indexed_by}
use Rattle.trade.specs.declared.price.Dirty.{Dirty}
use Rattle.trade.specs.declared.CouponBond.{CouponBond}
use Rattle.trade.specs.declared.IndexedBond.{IndexedBond}

-- "settlement cash is nominal × dirty / 10^6 half-up"
unfoldable pub settlement_cash : ℕ → Dirty → ℕ
settlement_cash nominal price = millionths_of nominal price.0

-- "Repo second leg: cash + interest − withholding"
unfoldable pub second_leg_cash : ℕ → ℕ → ℕ → ℕ
second_leg_cash cash rate term = cash + interest_on cash rate term - withholding_on (interest_on cash rate term)

-- "Coupons are nominal × coupon / 10^6 half-up"
unfoldable pub coupon_of : CouponBond → ℕ
coupon_of b = millionths_of b.nominal b.coupon

-- "Indexed: each payment so found × settlement index / issue index, half-up."
unfoldable pub indexed_of : IndexedBond → ℕ → ℕ
indexed_of i payment = indexed_by i.index i.issue payment
