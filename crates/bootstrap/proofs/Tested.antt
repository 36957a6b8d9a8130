-- Of a bond that is judged as an outright's record, 8 tests the curve id, 11 never applies, and 12 looks at the payments alone.
use mathlib.Core.Path.{◌≡◌, refl, ◌∙◌}
use mathlib.Core.Logic.{inr}
use mathlib.Core.Bool.{Bool, true, false, not, ◌&&◌}
use Prim.Native.Nat.{◌+◌, ◌≤◌}
use native.Mathlib.Omega.{arith}
use borrow.Author.Tests.{eq-eqb, le-ltb}
use lib.ListN.{length, replicate}
use Rattle.decimal.specs.Product.{unit}
use Rattle.layout.specs.Field.{number_at}
use Rattle.layout.proofs.Field.{field_apart}
use Rattle.record.specs.declared.Curves.{Curves}
use Rattle.record.specs.Bytes.{amounts_of, fields_of}
use Rattle.record.specs.Rules.{currency_of_id, breaks_currency, breaks_form}
use Rattle.record.specs.Uses.{in_limits}
use Rattle.trade.specs.Read.{security_of, trade_of}
use Rattle.flows.specs.Amounts.{settlement_cash}
use Rattle.legs.specs.Runs.{signed_leg, leg_flows}
use Rattle.flows.specs.Legs.{outright_legs, legs_of, any_above, breaks_flow_limit}
use Rattle.legs.specs.Signs.{signs_of}
use Rattle.flows.proofs.Above.{any-leg, any-legs}
use Rattle.flows.proofs.Bounds.{millionths-bound}
use Rattle.bootstrap.specs.declared.Quote.{Quote}
use Rattle.bootstrap.specs.Bought.{bond_record, bond_fields, bond_trade, bond_flows}
use Rattle.bootstrap.proofs.Payments.{legs-limited}

twice : (b : Bool) → not (b && b) ≡ not b
twice true = refl
twice false = refl

-- 8: the id is one of the book's
pub id-tested : (curves : Curves) (q : Quote) → breaks_form curves (bond_fields q).form ≡ not (in_limits 1 q.curve curves.count)
unfolding breaks_form bond_fields
id-tested curves q = twice (in_limits 1 q.curve curves.count)

-- 11
pub one-currency : (curves : Curves) (q : Quote) → breaks_currency curves (bond_fields q).form ≡ false
unfolding breaks_currency bond_fields
one-currency curves q = rw (eq-eqb (currency_of_id curves q.curve) (currency_of_id curves q.curve) refl)

-- 12
module _ (q : Quote) (long : length q.bond ≡ 20) (small : (bond_fields q).amounts.nominal ≤ unit) where
  no-accrued : (bond_fields q).amounts.accrued ≡ 0
  unfolding bond_fields fields_of amounts_of bond_record number_at
  no-accrued = field_apart 4 (replicate 56 0) 12 q.bond 44 (inr (omega arith)) ∙ refl

  settled : (legs_of (bond_trade q)).first.last ≡ settlement_cash (bond_fields q).amounts.nominal (record { 0 = 1 + (bond_fields q).amounts.accrued })
  unfolding bond_fields trade_of security_of outright_legs signed_leg signs_of
  settled = refl

  cash-small : (legs_of (bond_trade q)).first.last ≤ unit
  unfolding settlement_cash
  cash-small = rw (settled, no-accrued) (omega (arith, millionths-bound (bond_fields q).amounts.nominal 1 1 small (omega arith)))

  first-within : any_above (leg_flows (legs_of (bond_trade q)).first) ≡ false
  unfolding bond_fields trade_of security_of outright_legs signed_leg signs_of
  first-within = any-leg (legs_of (bond_trade q)).first ∙ rw (le-ltb unit (legs_of (bond_trade q)).first.last cash-small)

  no_second : any_above (leg_flows (legs_of (bond_trade q)).second) ≡ false
  unfolding bond_fields trade_of security_of outright_legs signed_leg signs_of
  no_second = any-leg (legs_of (bond_trade q)).second

  pub payments-tested : breaks_flow_limit (bond_trade q) ≡ any_above (bond_flows q)
  payments-tested = legs-limited q ∙ any-legs (legs_of (bond_trade q)) ∙ rw (first-within, no_second)
