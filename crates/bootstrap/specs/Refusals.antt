-- What refuses a bootstrap (document 02, wish 1).
use Rattle.std.specs.Prelude.{ℕ, Bool, not, ◌&&◌, ◌||◌, List, [], ◌∷◌, eqb, ltb, Some}
use Rattle.ground.specs.declared.Ground.TheVariants as ground
use Rattle.ground.specs.Verdicts.{Verdict, or_else, Rule, first_broken}
use Rattle.decimal.specs.Product.{unit}
use Rattle.curve.specs.declared.Node.{Node}
use Rattle.curve.specs.declared.Curve.{Curve}
use Rattle.curve.specs.Lengthen.{end_day}
use Rattle.curve.specs.Rates.{nodes_of}
use Rattle.curve_block.specs.Parts.{curve_of}
use Rattle.curve_block.specs.Rules.{component_sound}
use Rattle.record.specs.declared.Curves.{Curves}
use Rattle.record.specs.Uses.{in_limits}
use Rattle.flows.specs.Verdict.{record_verdict}
use Rattle.book.specs.Parts.{block_at, curves_of}
use Rattle.acceptance.specs.Verdict.{book_verdict}
use Rattle.bond.specs.Value.{last_payment, breaks_rate_range}
use Rattle.bootstrap.specs.declared.Quote.{Quote}
use Rattle.bootstrap.specs.Bought.{bond_fields, bond_payments, bond_flows}

-- ---- the quote by itself

-- "the components by 6"
unfoldable pub breaks_components : Quote → Bool
breaks_components q = not (component_sound q.first && component_sound q.second && component_sound q.third)

-- "the cash (1 to 10^12) by 10"
unfoldable pub breaks_cash : ℕ → Bool
breaks_cash cash = not (in_limits 1 cash unit)

abbrev pub quote_rules : Quote → List Rule
quote_rules q =
    (breaks_components q, ground.Node)
    ∷ (breaks_cash q.cash, ground.Amounts)
    ∷ []

-- "the curve id is tested by 8, the bond (as if value day 1 were 0) by 9, 10 and 12", as an outright's record is whose two curves are that
-- one: 11 then never applies, and 12 looks at the payments alone (proofs/Tested.antt). Then the components and the cash. "These and all
-- numbers from 17 on answer block 0."
unfoldable pub quote_verdict : Curves → Quote → Verdict
quote_verdict curves q = or_else (record_verdict curves (bond_fields q) 0) (first_broken 0 (quote_rules q))

-- ---- on its curve

-- the node "on the bond's last payment day", its rate not yet found
abbrev pub open_node : Quote → Node
open_node q = record { day = last_payment (bond_payments q); rate = 0; first = q.first; second = q.second; third = q.third }

-- 17. "when the curve has 24 nodes or the last payment isn't after the last node"
unfoldable pub breaks_curve_end : Curve → ℕ → Bool
breaks_curve_end c day = eqb c.count 24 || not (ltb (end_day c) day)

-- "17 .. tested next", "18 .. tested after 17"
abbrev pub extension_rules : Curve → Quote → List Rule
extension_rules c q =
    (breaks_curve_end c (open_node q).day, ground.CurveEnd)
    ∷ (breaks_rate_range (nodes_of c) (open_node q) (bond_flows q) q.cash, ground.RateRange)
    ∷ []

unfoldable pub extension_verdict : Curve → Quote → Verdict
extension_verdict c q = first_broken 0 (extension_rules c q)

-- ---- in a book

-- the curve of an id
abbrev pub curve_at : List ℕ → ℕ → Curve
curve_at s id = curve_of (block_at s id)

-- what is asked of a quote in an accepted book: its own grounds, and those of the curve
unfoldable pub in_book_verdict : List ℕ → Quote → Verdict
in_book_verdict s q = or_else (quote_verdict (curves_of s) q) (extension_verdict (curve_at s q.curve) q)

-- given the day: "after the book", whose 19 comes "before .. a curve id is looked at"
unfoldable pub bootstrap_verdict : List ℕ → ℕ → ℕ → Quote → Verdict
bootstrap_verdict s used day q = or_else (book_verdict s used (Some day)) (in_book_verdict s q)
