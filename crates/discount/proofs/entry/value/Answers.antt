-- `discount::entry::value` meets its contract: where 16 does not apply, what the two callees ask holds.
use mathlib.Core.Path.{◌≡◌}
use mathlib.Core.Bool.{false, ◌||◌}
use Prim.Native.Nat.{ℕ, ◌≤◌}
use lib.Dec.{ltb}
use borrow.Author.Tests.{ltb-false}
use Rattle.laws.proofs.Bools.{neither}
use Rattle.ground.specs.declared.Ground.TheVariants.{ValueRange}
use Rattle.ground.proofs.Verdicts.{not-broken}
use Rattle.decimal.specs.Product.{unit}
use Rattle.discount.specs.Discount.{million}
use Rattle.discount.specs.Valued.{breaks_value_range}
use Rattle.discount.proofs.entry.value.Goals as goal
use Rattle.discount.proofs.entry.value.Goals.{In_ok-refuse_if}

-- what is asked of the entry is in its limits
record ValueLimits (amount rate day : ℕ) : Type 0 where
  amount-le : amount ≤ unit
  rate-le : rate ≤ million
  day-le : day ≤ 10950

limits : (amount rate day : ℕ) → breaks_value_range amount rate day ≡ false → ValueLimits amount rate day
unfolding breaks_value_range
limits amount rate day h =
    let outer = neither (ltb unit amount || ltb million rate) (ltb 10950 day) h in
    let inner = neither (ltb unit amount) (ltb million rate) outer.0 in
    record {
      amount-le = ltb-false unit amount inner.0;
      rate-le = ltb-false million rate inner.1;
      day-le = ltb-false 10950 day outer.1;
    }

here : (c : In_ok-refuse_if) → ValueLimits c.args.amount c.args.rate c.args.day
here c = limits _ _ _ (not-broken ValueRange 0 c.breaks_value_range.ensures c.refuse_if.ensures c.in_ok-refuse_if.was)

pub present_value-requires : goal.present_value-requires
present_value-requires c = let l = here (goal.at.present_value-requires c).In_ok-refuse_if in (l.amount-le, l.rate-le)

pub tolerance-requires : goal.tolerance-requires
tolerance-requires c = let l = here (goal.at.tolerance-requires c).In_ok-refuse_if in (l.amount-le, l.day-le)
