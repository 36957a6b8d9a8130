-- What a bond is worth on a curve with one node more, and the rate of that node (document 02, wish 1).
use Rattle.std.specs.Prelude.{ℕ, Bool, ◌||◌, List, [], ◌∷◌, ◌++◌, leb, ltb}
use Rattle.laws.specs.Smallest.{smallest}
use Rattle.discount.specs.declared.Flow.{Flow}
use Rattle.discount.specs.Flows.{sum, flow_value}
use Rattle.curve.specs.declared.Node.{Node}
use Rattle.curve.specs.Limits.{highest_rate}
use Rattle.curve.specs.Lengthen.{at_rate}
use Rattle.curve.specs.Rates.{rate_at}
use Rattle.record.specs.Uses.{last_payment_day}
use Rattle.legs.specs.declared.Leg.{Leg}

-- the day of a leg's last payment
abbrev pub last_payment : Leg → ℕ
last_payment l = last_payment_day l.first l.period l.count

-- "the bond's summed present value": of its payments, at the rates of a curve
unfoldable pub bond_value : List Node → List Flow → ℕ
bond_value nodes payments = sum (flow_value (rate_at nodes)) payments

-- "on the lengthened curve", whose new node stands at a rate
unfoldable pub bond_value_at : List Node → Node → List Flow → ℕ → ℕ
bond_value_at nodes n payments rate = bond_value (nodes ++ at_rate n rate ∷ []) payments

-- 18. "when even rate 1,000,000 leaves the sum above the cash, or rate 0 leaves it below"
unfoldable pub breaks_rate_range : List Node → Node → List Flow → ℕ → Bool
breaks_rate_range nodes n payments cash =
    ltb cash (bond_value_at nodes n payments highest_rate) || ltb (bond_value_at nodes n payments 0) cash

-- "the smallest at which the bond's summed present value on the lengthened curve is at most the cash"
unfoldable pub rate_for : List Node → Node → List Flow → ℕ → ℕ
rate_for nodes n payments cash = smallest (λ rate. leb (bond_value_at nodes n payments rate) cash) highest_rate
