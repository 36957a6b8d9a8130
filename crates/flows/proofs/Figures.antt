-- The repo figures that document 01 marks to be proved ("Checked figures").
use mathlib.Core.Path.{◌≡◌, refl}
use Rattle.decimal.specs.HalfUp.{half_up, interest_on, withholding_on}
use Rattle.flows.specs.Amounts.{second_leg_cash}

-- "Repo 1,000,000,000 at 132,000 for 1 day: interest 361,644, withholding 54,247, second leg 1,000,307,397."
pub record RepoFigures : Type 0 where
  pub interest : interest_on 1000000000 132000 1 ≡ 361644
  pub withholding : withholding_on 361644 ≡ 54247
  pub second-leg : second_leg_cash 1000000000 132000 1 ≡ 1000307397

pub repo-figures : RepoFigures
unfolding half_up interest_on withholding_on second_leg_cash
repo-figures = record { interest = refl; withholding = refl; second-leg = refl }
