-- What a worked figure of source document 004 is, by the engine's own definitions, in kurus. An input outside the engine's limits is brought
-- into them.
use Rattle.std.specs.Prelude.{cond, ℕ, ◌-◌, ltb, unwrap_or}
use Rattle.decimal.specs.Product.{unit}
use Rattle.decimal.specs.HalfUp.{millionths_of, interest_on, withholding_on, indexed_by, scaled_to}
use Rattle.discount.specs.Discount.{million, present_value}
use Rattle.trade.specs.Prices.{dirty_of}
use Rattle.flows.specs.Amounts.{settlement_cash, second_leg_cash}
use Rattle.figures.specs.declared.figure.Work.{Work}
use Rattle.figures.specs.declared.figure.Work.TheVariants.{Price, Cash, Indexed, Present, Variation, Interest, Withholding, SecondLeg}

-- a number brought between two limits; an amount, a rate, a term and an index so brought
unfoldable pub brought : ℕ → ℕ → ℕ → ℕ
brought least most n = cond (ltb n least) least (cond (ltb most n) most n)

abbrev pub amount_in : ℕ → ℕ
amount_in n = brought 0 unit n

abbrev pub rate_in : ℕ → ℕ
rate_in n = brought 0 million n

abbrev pub term_in : ℕ → ℕ
term_in n = brought 0 730 n

abbrev pub index_in : ℕ → ℕ
index_in n = brought 1 10000000 n

-- ---- the figures

unfoldable pub cash_for : ℕ → ℕ → ℕ → ℕ
cash_for nominal clean accrued = settlement_cash (amount_in nominal) (dirty_of (record { 0 = brought 0 4000000 clean }) (rate_in accrued))

-- 0 where the payment is above the largest amount
unfoldable pub indexed_for : ℕ → ℕ → ℕ → ℕ → ℕ
indexed_for nominal coupon settlement issue =
    unwrap_or (scaled_to (indexed_by (index_in settlement) (index_in issue) (millionths_of (amount_in nominal) (rate_in coupon)))) 0

unfoldable pub present_for : ℕ → ℕ → ℕ → ℕ
present_for sum at days = present_value (amount_in sum) (rate_in at) days

unfoldable pub interest_for : ℕ → ℕ → ℕ → ℕ
interest_for cash at term = interest_on (amount_in cash) (rate_in at) (term_in term)

unfoldable pub second_leg_for : ℕ → ℕ → ℕ → ℕ
second_leg_for cash at term = second_leg_cash (amount_in cash) (rate_in at) (term_in term)

-- by what the figure is
unfoldable pub worked_of : Work → ℕ
worked_of (Price clean accrued) = cash_for 10000 clean accrued
worked_of (Cash nominal clean accrued) = cash_for nominal clean accrued
worked_of (Indexed nominal coupon settlement issue) = indexed_for nominal coupon settlement issue
worked_of (Present sum at days) = present_for sum at days
worked_of (Variation received paid) =
    present_for received.0 received.1 received.2 - present_for paid.0 paid.1 paid.2
worked_of (Interest cash at term) = interest_for cash at term
worked_of (Withholding cash at term) = withholding_on (interest_for cash at term)
worked_of (SecondLeg cash at term) = second_leg_for cash at term
