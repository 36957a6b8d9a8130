-- The verdict on a record: the first of the rules 8 to 12 that it breaks (document 01, "Grounds of refusal").
use Rattle.std.specs.Prelude.{ℕ, List, [], ◌∷◌}
use Rattle.ground.specs.Verdicts.{Rule, first_broken, Verdict}
use Rattle.ground.specs.declared.Ground.TheVariants.{Form, Days, Amounts, Currency, FlowLimit}
use Rattle.record.specs.declared.Fields.{Fields}
use Rattle.record.specs.declared.Curves.{Curves}
use Rattle.record.specs.Rules.{breaks_form, breaks_days, breaks_amounts, breaks_currency}
use Rattle.trade.specs.Read.{trade_of}
use Rattle.flows.specs.Legs.{breaks_flow_limit}

abbrev pub record_rules : Curves → Fields → List Rule
record_rules curves f =
    (breaks_form curves f.form, Form)
    ∷ (breaks_days f.form f.days, Days)
    ∷ (breaks_amounts f.form f.days f.amounts, Amounts)
    ∷ (breaks_currency curves f.form, Currency)
    ∷ (breaks_flow_limit (trade_of f), FlowLimit)
    ∷ []

-- a record of a block, or a new record with the block that it would take
unfoldable pub record_verdict : Curves → Fields → ℕ → Verdict
record_verdict curves f block = first_broken block (record_rules curves f)
