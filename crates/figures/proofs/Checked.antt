-- The figures that document 01 marks to be proved ("Checked figures"), as one theorem.
use mathlib.Core.Path.{◌≡◌}
use mathlib.Core.List.{[], ◌∷◌, map}
use Prim.Native.Nat.{ℕ}
use lib.IntN.{pos, neg_ℤ}
use Rattle.ground.specs.declared.Ground.TheVariants.{ValueRange}
use Rattle.ground.specs.Verdicts.{refused}
use Rattle.decimal.specs.HalfUp.{interest_on, withholding_on}
use Rattle.discount.specs.Discount.{present_value}
use Rattle.discount.specs.Valued.{valued_of}
use Rattle.discount.proofs.Figures.{present-values}
use Rattle.curve.specs.Rates.{rate_at}
use Rattle.curve.specs.Scenarios.{coefficients}
use Rattle.curve.proofs.Figures.{plain, figures-rates, figures-coefficients}
use Rattle.flows.specs.Amounts.{second_leg_cash}
use Rattle.flows.proofs.Figures.{repo-figures}

pub record CheckedFigures : Type 0 where
  -- "Present values: 1,000 at 1,000,000, 365 days: 500; 730 days: 250."
  pub one-year : present_value 1000 1000000 365 ≡ 500
  pub two-years : present_value 1000 1000000 730 ≡ 250
  -- "10^12 at 1,000,000, day 10,950: 931; day 10,951 is refused by 16."
  pub last-day : present_value 1000000000000 1000000 10950 ≡ 931
  pub day-after : valued_of 1000000000000 1000000 10951 ≡ refused ValueRange 0
  -- "77 on day 0: 77."
  pub today : (rate : ℕ) → present_value 77 rate 0 ≡ 77
  -- "Nodes (10; 100,007), (20; 100,000): day 5 100,007, day 13 100,005, day 25 100,000."
  pub rates : map (rate_at (plain 10 100007 ∷ plain 20 100000 ∷ [])) (5 ∷ 13 ∷ 25 ∷ []) ≡ 100007 ∷ 100005 ∷ 100000 ∷ []
  -- "Range 100, 3 steps: −100, −66, −33, 0, 33, 66, 100."
  pub steps : coefficients (record { steps = 3; range = 100 })
      ≡ neg_ℤ (pos 100) ∷ neg_ℤ (pos 66) ∷ neg_ℤ (pos 33) ∷ pos 0 ∷ pos 33 ∷ pos 66 ∷ pos 100 ∷ []
  -- "Repo 1,000,000,000 at 132,000 for 1 day: interest 361,644, withholding 54,247, second leg 1,000,307,397."
  pub interest : interest_on 1000000000 132000 1 ≡ 361644
  pub withholding : withholding_on 361644 ≡ 54247
  pub second-leg : second_leg_cash 1000000000 132000 1 ≡ 1000307397

pub checked-figures : CheckedFigures
checked-figures = record {
  one-year = present-values.one-year;
  two-years = present-values.two-years;
  last-day = present-values.last-day;
  day-after = present-values.day-after;
  today = present-values.today;
  rates = figures-rates;
  steps = figures-coefficients;
  interest = repo-figures.interest;
  withholding = repo-figures.withholding;
  second-leg = repo-figures.second-leg;
}
