-- The payments of a quote's bond, where its record breaks no rule: none is above the largest amount.
use mathlib.Core.Path.{◌≡◌, refl, sym, ap, ◌∙◌}
use mathlib.Core.Bool.{◌||◌, ◌&&◌}
use Prim.Native.Nat.{◌+◌, ◌≤◌}
use native.Mathlib.Omega.{arith}
use borrow.Author.Tests.{le-leb, ltb-false}
use lib.Dec.{leb, ltb}
use Rattle.laws.proofs.Bools.{neither}
use Rattle.decimal.specs.Product.{unit}
use Rattle.trade.specs.Read.{coupon_bond_of, security_of, trade_of}
use Rattle.flows.specs.Amounts.{coupon_of}
use Rattle.flows.specs.Capped.{capped_leg}
use Rattle.flows.specs.Counted.{counted_legs}
use Rattle.flows.specs.Legs.{bond_leg, outright_legs, legs_of, any_above, breaks_flow_limit}
use Rattle.legs.specs.Runs.{signed_leg, leg_flows, legs_flows}
use Rattle.flows.specs.Limits.{BondLimits, SoundTrade}
use Rattle.legs.specs.Signs.{signs_of}
use Rattle.flows.proofs.Above.{any-leg, any-legs}
use Rattle.flows.proofs.Bounds.{millionths-bound}
use Rattle.flows.proofs.Capped.{capped_small}
use Rattle.flows.proofs.Counted.{flows-counted}
use Rattle.bootstrap.specs.declared.Quote.{Quote}
use Rattle.bootstrap.specs.Bought.{bond_fields, bond_trade, bond_payments}

-- the leg of its coupons, the nominal added to the last
bond-leg : (q : Quote) → let b = coupon_bond_of (bond_fields q) in bond_payments q ≡ bond_leg b (coupon_of b) (coupon_of b + b.nominal)
unfolding bond_fields trade_of security_of outright_legs signed_leg signs_of
bond-leg q = refl

-- an outright counts them all
pub all-counted : (q : Quote) → counted_legs (bond_trade q) ≡ legs_of (bond_trade q)
unfolding bond_fields trade_of
all-counted q = refl

pub legs-limited : (q : Quote) → breaks_flow_limit (bond_trade q) ≡ any_above (legs_flows (legs_of (bond_trade q)))
unfolding breaks_flow_limit
legs-limited q = ap any_above (sym (flows-counted (bond_trade q)) ∙ ap legs_flows (all-counted q))

module _ (q : Quote) (v : SoundTrade (bond_trade q)) where
  pub bond-limits : BondLimits (coupon_bond_of (bond_fields q))
  unfolding bond_fields trade_of security_of
  bond-limits = v.limits.security

  pub each-small : (bond_payments q).each ≤ unit
  unfolding coupon_of
  each-small =
      let b = coupon_bond_of (bond_fields q) in
      rw (bond-leg q) (omega (arith, millionths-bound b.nominal b.coupon 1 bond-limits.nominal (omega (arith, bond-limits.coupon))))

  pub last-small : 1 ≤ (bond_payments q).count → (bond_payments q).last ≤ unit
  last-small some =
      let l = legs_of (bond_trade q) in
      let p = l.payments in
      let legs = any_above (leg_flows l.first) || any_above (leg_flows l.second) in
      let above = (neither legs (any_above (leg_flows p)) (sym (any-legs l) ∙ sym (legs-limited q) ∙ v.within)).1 in
      let last = (neither (leb 1 p.count && ltb unit p.last) (leb 2 p.count && ltb unit p.each) (sym (any-leg p) ∙ above)).0 in
      ltb-false unit p.last (rw (le-leb 1 p.count some) at last)

  -- so that the code's leg is the definition's
  pub payments-capped : 1 ≤ (bond_payments q).count → capped_leg (bond_payments q) ≡ bond_payments q
  payments-capped some = rw (capped_small (bond_payments q).each each-small, capped_small (bond_payments q).last (last-small some))
