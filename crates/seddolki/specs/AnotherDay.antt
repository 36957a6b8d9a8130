-- What the entries that are given the current day do with a book of another (document 02, wish 4: "19 when the days differ, tested after all rules on
-- the book's blocks and before a new record or a curve id is looked at").
use Rattle.std.specs.Prelude.{◌≡◌, List, ℕ, length}
use Rattle.ground.specs.declared.Ground.TheVariants.{ValuationDay}
use Rattle.ground.specs.Verdicts.{refused}
use Rattle.edit.specs.Edits.{append_answer, appended, strike_answer, struck}
use Rattle.report.specs.Entry.{margin_verdict, margin_bytes}
use Rattle.statement.specs.Entry.{statement_answer, statement_bytes}
use Rattle.preview.specs.Preview.{preview_verdict, preview_bytes}
use Rattle.bootstrap.specs.declared.Quote.{Quote}
use Rattle.bootstrap.specs.Refusals.{bootstrap_verdict}
use Rattle.bootstrap.specs.Bootstrap.{bootstrapped}

-- each answers 19 and block 0, whatever else it is given, and leaves every lent byte
pub record AnotherDay (s : List ℕ) (used day : ℕ) : Type 0 where
  pub margin : (out : List ℕ) → (margin_verdict s used day (length out) ≡ refused ValuationDay 0) × (margin_bytes s used day out ≡ out)
  pub statement : (out : List ℕ) → (statement_answer s used day (length out) ≡ refused ValuationDay 0) × (statement_bytes s used day out ≡ out)
  pub preview : (r out : List ℕ) → (preview_verdict s used day r (length out) ≡ refused ValuationDay 0) × (preview_bytes s used day r out ≡ out)
  pub append : (r : List ℕ) → (append_answer s used day r ≡ refused ValuationDay 0) × (appended s used day r ≡ s)
  pub strike : (position : ℕ) → (strike_answer s used day position ≡ refused ValuationDay 0) × (struck s used day position ≡ s)
  pub bootstrap : (q : Quote) → (bootstrap_verdict s used day q ≡ refused ValuationDay 0) × (bootstrapped s used day q ≡ s)
