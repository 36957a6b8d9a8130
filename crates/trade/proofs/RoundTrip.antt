-- A trade that is written reads back as the same trade, and an accepted record that is read and written again is the same record.
use mathlib.Core.Path.{◌≡◌, refl, sym, ap, ◌∙◌}
use mathlib.Core.Bool.{false}
use mathlib.Core.List.{List}
use Prim.Native.Nat.{ℕ, zero, suc, ◌≤◌}
use native.Mathlib.Omega.{arith}
use lib.ListN.{length}
use Rattle.layout.specs.Bytes.{AreBytes}
use Rattle.record.specs.declared.Fields.{Fields}
use Rattle.record.specs.declared.Curves.{Curves}
use Rattle.record.specs.Uses.{is_outright}
use Rattle.record.specs.Bytes.{fields_of, record_bytes}
use Rattle.record.specs.Rules.{breaks_form, breaks_amounts}
use Rattle.record.proofs.Facts.{Kind, outright, pool, specified, Formed, formed, Priced, priced}
use Rattle.record.proofs.RoundTrip.{Narrow, bytes-fields-bytes, fields-bytes-fields}
use Rattle.trade.specs.declared.Security.{Security}
use Rattle.trade.specs.declared.Security.TheVariants.{Nothing, Single, Coupons, Indexed}
use Rattle.trade.specs.declared.Trade.{Trade}
use Rattle.trade.specs.declared.Trade.TheVariants.{Outright, Pool, Specified}
use Rattle.trade.specs.Read.{indexed_bond_of, pick_security, security_of, outright_of, repo_of, pick_trade, trade_of}
use Rattle.trade.specs.Write.{security_number, filled_by, fields_of_outright, fields_of_repo, fields_of_trade}

-- ---- from a trade to fields and back

security-back : (s : Security) → pick_security (security_number s) (record { curve = (filled_by s).bond.curve; first = (filled_by s).bond.first; nominal = (filled_by s).bond.nominal }) (filled_by s).bond (filled_by s) ≡ s
security-back Nothing = refl
security-back (Single p) = refl
security-back (Coupons b) = refl
security-back (Indexed i) = refl

pub trade-fields-trade : (t : Trade) → trade_of (fields_of_trade t) ≡ t
unfolding trade_of security_of fields_of_outright fields_of_repo
trade-fields-trade (Outright t) = rw (security-back t.security)
trade-fields-trade (Pool t) = rw (security-back t.security)
trade-fields-trade (Specified t) = rw (security-back t.security)

-- ---- from fields to a trade and back

-- what the rules 8 and 10 leave
pub record FormAndAmounts (curves : Curves) (f : Fields) : Type 0 where
  pub form : Formed curves f.form
  pub amounts : Priced f.form f.days f.amounts

module _ {curves : Curves} (f : Fields) (r : FormAndAmounts curves f) where
  -- a security fills the fields that the record has
  abbrev Filled : Security → Type 0
  Filled s = (security_number s ≡ f.form.security) × (filled_by s ≡ indexed_bond_of f)

  -- by its number
  filled_at : (number : ℕ) → f.form.security ≡ number → number ≤ 3 → Filled (security_of f)
  unfolding security_of
  filled_at zero e h =
      let bare = r.amounts.bare (rw e) in
      let flat = r.amounts.flat (rw e) in
      let plain = r.amounts.plain (rw e) in
      (rw e, rw (e, r.form.bare (rw e), bare.0, bare.1, flat.0, flat.1.0, flat.1.1, plain.0, plain.1))
  filled_at (suc zero) e h =
      let flat = r.amounts.flat (rw e) in
      let plain = r.amounts.plain (rw e) in
      (rw e, rw (e, flat.0, flat.1.0, flat.1.1, plain.0, plain.1))
  filled_at (suc (suc zero)) e h = let plain = r.amounts.plain (rw e) in (rw e, rw (e, plain.0, plain.1))
  filled_at (suc (suc (suc zero))) e h = (rw e, rw e)
  filled_at (suc (suc (suc (suc n)))) e h = absurd (omega arith)

  filled : Filled (security_of f)
  filled = filled_at f.form.security refl r.form.securities

  -- a path of records is made field by field: at its one end the fields as written back, at the other the record's own
  outright-back : f.form.kind ≡ 1 → f.form.phase ≡ 0 → fields_of_outright (outright_of f) ≡ f
  unfolding fields_of_outright
  outright-back kind phase =
      let unused = r.amounts.bought (rw kind) in
      λ i. let p = filled.1 i in let b = p.bond in record {
        form = record {
          kind = sym kind i;
          side = f.form.side;
          phase = sym phase i;
          securitycurve = b.curve;
          cashcurve = f.form.cashcurve;
          security = filled.0 i;
          blank = sym r.amounts.blank i;
        };
        days = record {
          valueday1 = f.days.valueday1;
          valueday2 = sym unused.0 i;
          first = b.first;
          period = b.period;
          payments = b.payments;
          term = sym unused.1.0 i;
        };
        amounts = record {
          coupon = b.coupon;
          nominal = b.nominal;
          cash = sym unused.1.1.0 i;
          price = f.amounts.price;
          accrued = f.amounts.accrued;
          index = p.index;
          issue = p.issue;
        };
      }

  repo-back : (kind : ℕ) → f.form.kind ≡ kind → is_outright f.form.kind ≡ false → fields_of_repo kind (repo_of f) ≡ f
  unfolding fields_of_repo
  repo-back kind e repo =
      λ i. let p = filled.1 i in let b = p.bond in record {
        form = record {
          kind = sym e i;
          side = f.form.side;
          phase = f.form.phase;
          securitycurve = b.curve;
          cashcurve = f.form.cashcurve;
          security = filled.0 i;
          blank = sym r.amounts.blank i;
        };
        days = record {
          valueday1 = f.days.valueday1;
          valueday2 = f.days.valueday2;
          first = b.first;
          period = b.period;
          payments = b.payments;
          term = f.days.term;
        };
        amounts = record {
          coupon = b.coupon;
          nominal = b.nominal;
          cash = f.amounts.cash;
          price = f.amounts.price;
          accrued = sym (r.amounts.lent repo).0 i;
          index = p.index;
          issue = p.issue;
        };
      }

  -- the trade by the record's kind
  by_kind : (kind : ℕ) → f.form.kind ≡ kind → fields_of_trade (trade_of f) ≡ fields_of_trade (pick_trade kind (outright_of f) (repo_of f))
  unfolding trade_of
  by_kind kind e = ap (λ (k : ℕ). fields_of_trade (pick_trade k (outright_of f) (repo_of f))) e

  trade-at : Kind f.form → fields_of_trade (trade_of f) ≡ f
  trade-at (outright kind phase) = by_kind 1 kind ∙ outright-back kind phase
  trade-at (pool kind phase) = by_kind 2 kind ∙ repo-back 2 kind (rw kind)
  trade-at (specified kind phase) = by_kind 3 kind ∙ repo-back 3 kind (rw kind)

pub fields-trade-fields : (curves : Curves) (f : Fields) → breaks_form curves f.form ≡ false → breaks_amounts f.form f.days f.amounts ≡ false
    → fields_of_trade (trade_of f) ≡ f
fields-trade-fields curves f form amounts =
    let r : FormAndAmounts curves f = record { form = formed curves f.form form; amounts = priced f.form f.days f.amounts amounts } in
    trade-at f r r.form.kinds

-- ---- and of the 56 bytes

-- a record that the rules 8 and 10 accept, read as a trade and written again, is the same record
pub bytes-trade-bytes : (curves : Curves) (b : List ℕ) → length b ≡ 56 → AreBytes b
    → breaks_form curves (fields_of b).form ≡ false → breaks_amounts (fields_of b).form (fields_of b).days (fields_of b).amounts ≡ false
    → record_bytes (fields_of_trade (trade_of (fields_of b))) ≡ b
bytes-trade-bytes curves b long bytes form amounts =
    ap record_bytes (fields-trade-fields curves (fields_of b) form amounts) ∙ bytes-fields-bytes b long bytes

-- a trade whose numbers keep the widths of their fields, written and read, is the same trade
pub trade-bytes-trade : (t : Trade) → Narrow (fields_of_trade t) → trade_of (fields_of (record_bytes (fields_of_trade t))) ≡ t
trade-bytes-trade t n = ap trade_of (fields-bytes-fields (fields_of_trade t) n) ∙ trade-fields-trade t
