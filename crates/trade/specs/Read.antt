-- A trade from a record's fields (document 01, "Record").
use Rattle.std.specs.Prelude.{ℕ, cond, eqb}
use Rattle.record.specs.Uses.{is_outright, is_pool}
use Rattle.record.specs.declared.Fields.{Fields}
use Rattle.trade.specs.declared.SinglePayment.{SinglePayment}
use Rattle.trade.specs.declared.CouponBond.{CouponBond}
use Rattle.trade.specs.declared.IndexedBond.{IndexedBond}
use Rattle.trade.specs.declared.Security.{Security}
use Rattle.trade.specs.declared.Security.TheVariants.{Nothing, Single, Coupons, Indexed}
use Rattle.trade.specs.declared.OutrightTrade.{OutrightTrade}
use Rattle.trade.specs.declared.RepoTrade.{RepoTrade}
use Rattle.trade.specs.declared.Trade.{Trade}
use Rattle.trade.specs.declared.Trade.TheVariants.{Outright, Pool, Specified}

abbrev pub single_payment_of : Fields → SinglePayment
single_payment_of f = record { curve = f.form.securitycurve; first = f.days.first; nominal = f.amounts.nominal }

abbrev pub coupon_bond_of : Fields → CouponBond
coupon_bond_of f = record {
  curve = f.form.securitycurve;
  first = f.days.first;
  nominal = f.amounts.nominal;
  period = f.days.period;
  payments = f.days.payments;
  coupon = f.amounts.coupon;
}

abbrev pub indexed_bond_of : Fields → IndexedBond
indexed_bond_of f = record { bond = coupon_bond_of f; index = f.amounts.index; issue = f.amounts.issue }

-- "security (0 none, 1 single payment, 2 coupons, 3 indexed coupons)"
abbrev pub pick_security : ℕ → SinglePayment → CouponBond → IndexedBond → Security
pick_security number single bond indexed =
    cond (eqb number 0) Nothing (cond (eqb number 1) (Single single) (cond (eqb number 2) (Coupons bond) (Indexed indexed)))

unfoldable pub security_of : Fields → Security
security_of f = pick_security f.form.security (single_payment_of f) (coupon_bond_of f) (indexed_bond_of f)

abbrev pub outright_of : Fields → OutrightTrade
outright_of f = record {
  side = f.form.side;
  cashcurve = f.form.cashcurve;
  valueday1 = f.days.valueday1;
  price = record { 0 = f.amounts.price };
  accrued = f.amounts.accrued;
  security = security_of f;
}

abbrev pub repo_of : Fields → RepoTrade
repo_of f = record {
  side = f.form.side;
  phase = f.form.phase;
  cashcurve = f.form.cashcurve;
  valueday1 = f.days.valueday1;
  valueday2 = f.days.valueday2;
  term = f.days.term;
  cash = f.amounts.cash;
  rate = f.amounts.price;
  security = security_of f;
}

-- "kind (1 outright, 2 pool repo, 3 specified repo)"
abbrev pub pick_trade : ℕ → OutrightTrade → RepoTrade → Trade
pick_trade kind outright repo = cond (is_outright kind) (Outright outright) (cond (is_pool kind) (Pool repo) (Specified repo))

unfoldable pub trade_of : Fields → Trade
trade_of f = pick_trade f.form.kind (outright_of f) (repo_of f)
