-- The bond that a quote names, as an outright trade in it, its curve the one to be lengthened (document 02, wish 1).
use Rattle.std.specs.Prelude.{ℕ, List, ℤ, replicate}
use Rattle.layout.specs.Bytes.{put}
use Rattle.discount.specs.declared.Flow.{Flow}
use Rattle.record.specs.declared.Fields.{Fields}
use Rattle.record.specs.Bytes.{fields_of}
use Rattle.trade.specs.declared.Trade.{Trade}
use Rattle.trade.specs.Read.{trade_of}
use Rattle.legs.specs.declared.Leg.{Leg}
use Rattle.flows.specs.Legs.{legs_of}
use Rattle.legs.specs.Runs.{leg_flows}
use Rattle.bootstrap.specs.declared.Quote.{Quote}

-- "Given a curve, a coupon bond (record fields 12-31), its settlement cash today and three components for the new node"
abbrev pub quote_of : ℕ → List ℕ → ℕ → ℤ → ℤ → ℤ → Quote
quote_of curve bond cash first second third = record { curve = curve; bond = bond; cash = cash; first = first; second = second; third = third }

-- "a coupon bond (record fields 12-31)": a record with the bond's bytes in their places, and zeros in all others, so that value day 1 is 0
unfoldable pub bond_record : List ℕ → List ℕ
bond_record bond = put (replicate 56 0) 12 bond

-- a record's days and amounts as those of an outright in coupons, bought, both of its curves the one named. It has a price, on which no
-- payment depends: the least
abbrev pub bought : ℕ → Fields → Fields
bought curve f = record {
  form = record { kind = 1; side = 1; phase = 0; securitycurve = curve; cashcurve = curve; security = 2; blank = 0 };
  days = f.days;
  amounts = record {
    coupon = f.amounts.coupon;
    nominal = f.amounts.nominal;
    cash = f.amounts.cash;
    price = 1;
    accrued = f.amounts.accrued;
    index = f.amounts.index;
    issue = f.amounts.issue;
  };
}

unfoldable pub bond_fields : Quote → Fields
bond_fields q = bought q.curve (fields_of (bond_record q.bond))

abbrev pub bond_trade : Quote → Trade
bond_trade q = trade_of (bond_fields q)

-- the payments that its buyer gets
abbrev pub bond_payments : Quote → Leg
bond_payments q = (legs_of (bond_trade q)).payments

abbrev pub bond_flows : Quote → List Flow
bond_flows q = leg_flows (bond_payments q)
