-- What a quote that keeps its own rules gives: its curve is the book's, and it keeps its limits.
use mathlib.Core.Path.{◌≡◌, refl}
use mathlib.Core.Bool.{◌&&◌}
use mathlib.Core.List.{List}
use Prim.Native.Nat.{ℕ, ◌≤◌}
use native.Mathlib.Omega.{arith}
use borrow.Author.Tests.{not-false}
use Rattle.std.specs.Prelude.{Ok}
use Rattle.laws.proofs.Bools.{both}
use Rattle.ground.specs.Limits.{last_day}
use Rattle.ground.specs.Verdicts.{first_broken}
use Rattle.ground.proofs.Verdicts.{or_else-accepted, unbroken}
use Rattle.curve.specs.Limits.{NodeLimits}
use Rattle.curve_block.specs.Rules.{component_sound}
use Rattle.curve_block.proofs.Accepted.{component-kept}
use Rattle.record.specs.declared.Curves.{Curves}
use Rattle.record.proofs.Limits.{InLimits}
use Rattle.trade.specs.Read.{security_of, trade_of}
use Rattle.legs.specs.Runs.{signed_leg}
use Rattle.flows.specs.Legs.{outright_legs}
use Rattle.legs.specs.Signs.{signs_of}
use Rattle.flows.specs.Verdict.{record_verdict}
use Rattle.flows.proofs.Bounded.{AcceptedRecord, accepted}
use Rattle.book.specs.Parts.{curve_count, curves_of, curves_in}
use Rattle.book.proofs.Places.{length-curve_blocks}
use Rattle.bond.specs.Limits.{PaymentLimits}
use Rattle.bootstrap.specs.declared.Quote.{Quote}
use Rattle.bootstrap.specs.Bought.{bond_fields, bond_payments}
use Rattle.bootstrap.specs.Refusals.{breaks_components, quote_rules, quote_verdict, open_node}
use Rattle.bootstrap.specs.Limits.{QuoteLimits}
use Rattle.bootstrap.proofs.Payments.{bond-limits, each-small, last-small}

module _ (curves : Curves) (q : Quote) (h : quote_verdict curves q ≡ Ok tt) where
  parts : (record_verdict curves (bond_fields q) 0 ≡ Ok tt) × (first_broken 0 (quote_rules q) ≡ Ok tt)
  unfolding quote_verdict
  parts = or_else-accepted (record_verdict curves (bond_fields q) 0) (first_broken 0 (quote_rules q)) tt h

  bond-accepted : AcceptedRecord curves (bond_fields q)
  bond-accepted = accepted curves (bond_fields q) 0 parts.0

  -- the curve's id is one of the book's
  id-kept : InLimits 1 q.curve curves.count
  unfolding bond_fields
  id-kept = bond-accepted.sound.form.cash

  some-payments : 1 ≤ (bond_payments q).count
  unfolding bond_fields trade_of security_of outright_legs signed_leg signs_of
  some-payments = (bond-accepted.sound.days.coupons refl).number.some.low

  few-payments : (bond_payments q).count ≤ 120
  unfolding trade_of security_of outright_legs signed_leg signs_of bond_fields
  few-payments = (bond-limits q bond-accepted.trade).few

  in_reach : (open_node q).day ≤ last_day
  unfolding trade_of security_of outright_legs signed_leg signs_of bond_fields
  in_reach = (bond-limits q bond-accepted.trade).reach

  payments-kept : PaymentLimits (bond_payments q)
  payments-kept =
      record {
        some = some-payments;
        few = few-payments;
        reach = in_reach;
        each = each-small q bond-accepted.trade;
        last = last-small q bond-accepted.trade some-payments;
      }

  node_kept : NodeLimits (open_node q)
  unfolding breaks_components
  node_kept =
      let a = component_sound q.first in
      let b = component_sound q.second in
      let c = component_sound q.third in
      let p = both (a && b) c (not-false (a && b && c) (unbroken 0 (quote_rules q) parts.1 0)) in
      let r = both a b p.0 in
      record {
        day = in_reach;
        rate = omega arith;
        first = component-kept q.first r.0;
        second = component-kept q.second r.1;
        third = component-kept q.third p.1;
      }

  pub quote-kept : QuoteLimits q
  quote-kept = record { trade = bond-accepted.trade; payments = payments-kept; node = node_kept }

-- in a book
pub id-in-book : (s : List ℕ) (q : Quote) → quote_verdict (curves_of s) q ≡ Ok tt → InLimits 1 q.curve (curve_count s)
unfolding curves_in
id-in-book s q h = rw (← length-curve_blocks s) (id-kept (curves_of s) q h)
