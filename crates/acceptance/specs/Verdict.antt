-- The whole-book check: "a book is accepted if no ground tested on a book applies to it" (document 01, "The words of demand 3"). It is given a
-- day or not; entries that are lent a book begin with it.
use Rattle.std.specs.Prelude.{ℕ, Bool, false, not, List, [], ◌∷◌, eqb, Option, None, Some}
use Rattle.ground.specs.declared.Ground.TheVariants.{ValuationDay}
use Rattle.ground.specs.Verdicts.{Verdict, or_else, Rule, first_broken}
use Rattle.book.specs.Parts.{Parts, parts_of}
use Rattle.book.specs.Verdict.{blocks_verdict}

-- the current day where an entry is given one, in days since 1 January 2000
abbrev pub Today : Type 0
Today = Option ℕ

-- 19. "when the days differ": the book's valuation day, and the current day where one is given
unfoldable pub breaks_valuation_day : ℕ → Today → Bool
breaks_valuation_day day (Some today) = not (eqb day today)
breaks_valuation_day day None = false

-- what is asked of a book as a whole is asked of its parts: "all numbers from 17 on answer block 0"
abbrev pub book_rules : Parts → Today → List Rule
book_rules p today = (breaks_valuation_day p.header.day today, ValuationDay) ∷ []

abbrev pub parts_verdict : Parts → Today → Verdict
parts_verdict p today = first_broken 0 (book_rules p today)

-- 19 is "tested after all rules on the book's blocks"
unfoldable pub book_verdict : List ℕ → ℕ → Today → Verdict
book_verdict s used today = or_else (blocks_verdict s used) (parts_verdict (parts_of s) today)
