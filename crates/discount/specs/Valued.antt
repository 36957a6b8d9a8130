-- The answer of the present value entry, and its ground of refusal (document 01, 16).
use Rattle.std.specs.Prelude.{ℕ, Bool, ◌||◌, ltb, Result, Ok}
use Rattle.ground.specs.declared.Ground.TheVariants.{ValueRange}
use Rattle.ground.specs.declared.Refusal.{Refusal}
use Rattle.ground.specs.Limits.{last_day}
use Rattle.ground.specs.Verdicts.{unless}
use Rattle.decimal.specs.Product.{unit}
use Rattle.discount.specs.Discount.{million, present_value, tolerance}
use Rattle.discount.specs.declared.entry.Worth.{Worth}

-- 16: "An amount above 10^12, a rate above 1,000,000 or a day above 10,950"
unfoldable pub breaks_value_range : ℕ → ℕ → ℕ → Bool
breaks_value_range amount rate day = ltb unit amount || ltb million rate || ltb last_day day

-- refused by 16, block 0, or the present value and its tolerance
unfoldable pub valued_of : ℕ → ℕ → ℕ → Result Worth Refusal
valued_of amount rate day =
    unless (breaks_value_range amount rate day) ValueRange 0 (Ok (record { value = present_value amount rate day; tolerance = tolerance amount day }))
