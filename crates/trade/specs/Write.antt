-- A record's fields from a trade: those that it does not use are 0 (document 01, "Fields a record doesn't use are 0").
use Rattle.std.specs.Prelude.{ℕ}
use Rattle.record.specs.declared.Fields.{Fields}
use Rattle.trade.specs.declared.IndexedBond.{IndexedBond}
use Rattle.trade.specs.declared.Security.{Security}
use Rattle.trade.specs.declared.Security.TheVariants.{Nothing, Single, Coupons, Indexed}
use Rattle.trade.specs.declared.OutrightTrade.{OutrightTrade}
use Rattle.trade.specs.declared.RepoTrade.{RepoTrade}
use Rattle.trade.specs.declared.Trade.{Trade}
use Rattle.trade.specs.declared.Trade.TheVariants.{Outright, Pool, Specified}

-- "security (0 none, 1 single payment, 2 coupons, 3 indexed coupons)"
abbrev pub security_number : Security → ℕ
security_number Nothing = 0
security_number (Single p) = 1
security_number (Coupons b) = 2
security_number (Indexed i) = 3

-- a security as the fields of an indexed bond; those that it does not fill are 0
abbrev pub filled_by : Security → IndexedBond
filled_by Nothing = record { bond = record { curve = 0; first = 0; nominal = 0; period = 0; payments = 0; coupon = 0 }; index = 0; issue = 0 }
filled_by (Single p) = record { bond = record { curve = p.curve; first = p.first; nominal = p.nominal; period = 0; payments = 0; coupon = 0 }; index = 0; issue = 0 }
filled_by (Coupons b) = record { bond = b; index = 0; issue = 0 }
filled_by (Indexed i) = i

unfoldable pub fields_of_outright : OutrightTrade → Fields
fields_of_outright t = let i = filled_by t.security in let b = i.bond in record {
  form = record { kind = 1; side = t.side; phase = 0; securitycurve = b.curve; cashcurve = t.cashcurve; security = security_number t.security; blank = 0 };
  days = record { valueday1 = t.valueday1; valueday2 = 0; first = b.first; period = b.period; payments = b.payments; term = 0 };
  amounts = record {
    coupon = b.coupon;
    nominal = b.nominal;
    cash = 0;
    price = t.price.0;
    accrued = t.accrued;
    index = i.index;
    issue = i.issue;
  };
}

unfoldable pub fields_of_repo : ℕ → RepoTrade → Fields
fields_of_repo kind t = let i = filled_by t.security in let b = i.bond in record {
  form = record { kind = kind; side = t.side; phase = t.phase; securitycurve = b.curve; cashcurve = t.cashcurve; security = security_number t.security; blank = 0 };
  days = record { valueday1 = t.valueday1; valueday2 = t.valueday2; first = b.first; period = b.period; payments = b.payments; term = t.term };
  amounts = record {
    coupon = b.coupon;
    nominal = b.nominal;
    cash = t.cash;
    price = t.rate;
    accrued = 0;
    index = i.index;
    issue = i.issue;
  };
}

abbrev pub fields_of_trade : Trade → Fields
fields_of_trade (Outright t) = fields_of_outright t
fields_of_trade (Pool t) = fields_of_repo 2 t
fields_of_trade (Specified t) = fields_of_repo 3 t
