-- The present values that document 01 marks to be proved ("Checked figures"), and halves (document 02, wish 7). No root is ever searched for: on
-- whole years and on day 0 the factor takes none. Nor is an exact value: two tests show it.
use mathlib.Core.Path.{◌≡◌, refl}
use Prim.Native.Nat.{ℕ}
use lib.Dec.{lit<, leb→le}
use Rattle.ground.specs.declared.Ground.TheVariants.{ValueRange}
use Rattle.ground.specs.Verdicts.{refused}
use Rattle.decimal.specs.Product.{unit, product}
use Rattle.decimal.specs.HalfUp.{half_up, discounted}
use Rattle.discount.specs.Discount.{million, year, yearly, compound, power, factor, present_value}
use Rattle.discount.specs.Exact.{exact}
use Rattle.discount.specs.Valued.{breaks_value_range, valued_of}
use Rattle.discount.proofs.Exactness.{exact-is}

pub record PresentValues : Type 0 where
  -- 1,000 at 1,000,000, 365 days: 500; 730 days: 250
  pub one-year : present_value 1000 1000000 365 ≡ 500
  pub two-years : present_value 1000 1000000 730 ≡ 250
  -- 10^12 at 1,000,000, day 10,950: 931; day 10,951 is refused by 16
  pub last-day : present_value 1000000000000 1000000 10950 ≡ 931
  pub day-after : valued_of 1000000000000 1000000 10951 ≡ refused ValueRange 0
  -- 77 on day 0: 77
  pub today : (rate : ℕ) → present_value 77 rate 0 ≡ 77

pub present-values : PresentValues
unfolding unit product half_up discounted million year yearly compound power factor present_value breaks_value_range valued_of
present-values = record { one-year = refl; two-years = refl; last-day = refl; day-after = refl; today = λ rate. refl }

-- 1 and 3 at 1,000,000, 365 days, are a half and three halves: each goes up, as computed and exactly
pub record Halves : Type 0 where
  pub half : present_value 1 1000000 365 ≡ 1
  pub three_halves : present_value 3 1000000 365 ≡ 2
  pub exact-half : exact 1 1000000 365 ≡ 1
  pub exact-three-halves : exact 3 1000000 365 ≡ 2

pub halves : Halves
unfolding unit product half_up discounted million year yearly compound power factor present_value
halves =
    record {
      half = refl;
      three_halves = refl;
      exact-half = exact-is 1 1000000 365 1 (leb→le _ _ tt) (lit< tt);
      exact-three-halves = exact-is 3 1000000 365 2 (leb→le _ _ tt) (lit< tt);
    }
