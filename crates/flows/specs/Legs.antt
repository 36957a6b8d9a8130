-- The flows of a trade (document 01, "Flows"): its first leg, second leg and payments.
use Rattle.std.specs.Prelude.{ℕ, ◌+◌, Bool, true, false, ◌||◌, List, [], ◌∷◌, ◌++◌, ltb}
use Rattle.laws.specs.Select.{select}
use Rattle.decimal.specs.Product.{unit}
use Rattle.discount.specs.declared.Flow.{Flow}
use Rattle.trade.specs.Prices.{dirty_of}
use Rattle.trade.specs.declared.CouponBond.{CouponBond}
use Rattle.trade.specs.declared.Security.{Security}
use Rattle.trade.specs.declared.Security.TheVariants.{Nothing, Single, Coupons, Indexed}
use Rattle.trade.specs.declared.OutrightTrade.{OutrightTrade}
use Rattle.trade.specs.declared.RepoTrade.{RepoTrade}
use Rattle.trade.specs.declared.Trade.{Trade}
use Rattle.trade.specs.declared.Trade.TheVariants.{Outright, Pool, Specified}
use Rattle.legs.specs.declared.signs.Signs.{Signs}
use Rattle.legs.specs.declared.Leg.{Leg}
use Rattle.legs.specs.declared.Legs.{Legs}
use Rattle.legs.specs.Signs.{signs_of}
use Rattle.legs.specs.Runs.{no_leg, one_flow, signed_leg, leg_flows}
use Rattle.flows.specs.Amounts.{settlement_cash, second_leg_cash, coupon_of, indexed_of}
use Rattle.flows.specs.Window.{in_window}

-- ---- the payments of a security

-- "on first day + i × period, i from 0"
abbrev pub bond_leg : CouponBond → ℕ → ℕ → Leg
bond_leg b each last = record {
  curve = b.curve;
  received = true;
  first = b.first;
  period = b.period;
  count = b.payments;
  each = each;
  last = last;
}

-- "a single payment is the nominal on the first payment day"; of coupons "the nominal is added to the last, making one flow"; "Indexed:
-- each payment so found × settlement index / issue index"; "payments [stand] on the security curve"
abbrev pub payments_of : Security → Leg
payments_of Nothing = no_leg
payments_of (Single p) = one_flow p.curve p.first p.nominal
payments_of (Coupons b) = bond_leg b (coupon_of b) (coupon_of b + b.nominal)
payments_of (Indexed i) = bond_leg i.bond (indexed_of i (coupon_of i.bond)) (indexed_of i (coupon_of i.bond + i.bond.nominal))

-- the day of the first, 0 where there is none
abbrev pub first_payment_of : Security → ℕ
first_payment_of Nothing = 0
first_payment_of (Single p) = p.first
first_payment_of (Coupons b) = b.first
first_payment_of (Indexed i) = i.bond.first

abbrev pub nominal_of : Security → ℕ
nominal_of Nothing = 0
nominal_of (Single p) = p.nominal
nominal_of (Coupons b) = b.nominal
nominal_of (Indexed i) = i.bond.nominal

-- ---- a trade's legs, with all the payments of its security

-- the settlement cash on value day 1, and the payments
unfoldable pub outright_legs : Signs → OutrightTrade → Legs
outright_legs s t = record {
  first = signed_leg s.first (one_flow t.cashcurve t.valueday1 (settlement_cash (nominal_of t.security) (dirty_of t.price t.accrued)));
  second = no_leg;
  payments = signed_leg s.payments (payments_of t.security);
}

-- the cash on value day 1, the second leg on value day 2, and the payments
unfoldable pub repo_legs : Signs → RepoTrade → Legs
repo_legs s t = record {
  first = signed_leg s.first (one_flow t.cashcurve t.valueday1 t.cash);
  second = signed_leg s.second (one_flow t.cashcurve t.valueday2 (second_leg_cash t.cash t.rate t.term));
  payments = signed_leg s.payments (payments_of t.security);
}

abbrev pub legs_of : Trade → Legs
legs_of (Outright t) = outright_legs (signs_of 1 0 t.side) t
legs_of (Pool t) = repo_legs (signs_of 2 t.phase t.side) t
legs_of (Specified t) = repo_legs (signs_of 3 t.phase t.side) t

-- ---- and its flows

-- the payments that count, by the window of the trade's kind and phase
abbrev pub payment_flows : Trade → List Flow
payment_flows t = select (λ (f : Flow). in_window t f.day) (leg_flows (legs_of t).payments)

unfoldable pub flows_of : Trade → List Flow
flows_of t = leg_flows (legs_of t).first ++ leg_flows (legs_of t).second ++ payment_flows t

-- ---- 12. A flow that the table gives the trade exceeds 10^12.

unfoldable pub any_above : List Flow → Bool
any_above [] = false
any_above (f ∷ fs) = ltb unit f.amount || any_above fs

unfoldable pub breaks_flow_limit : Trade → Bool
breaks_flow_limit t = any_above (flows_of t)
