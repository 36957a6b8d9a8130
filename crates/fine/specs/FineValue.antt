-- When a present value is known from two numbers between which its factor lies.
use Rattle.std.specs.Prelude.{ℕ, cond, ◌*◌, ◌==◌, Result, Ok, Err}
use Rattle.decimal.specs.HalfUp.{half_up}
use Rattle.logarithm.specs.Logarithms.{fine_whole}
use Rattle.fine.specs.declared.bracket.Bracket.{Bracket}
use Rattle.fine.specs.Fine.{bracket_at}

-- what an amount is worth at the lower end, and whether it is known: the same as at the upper one
unfoldable pub fine_value_in : ℕ → Bracket → Result ℕ ℕ
fine_value_in amount b =
    cond (half_up (amount * b.low) fine_whole == half_up (amount * b.high) fine_whole)
    (Ok (half_up (amount * b.low) fine_whole))
    (Err (half_up (amount * b.low) fine_whole))

-- at a rate on a day, by the fine factor
unfoldable pub fine_value_at : ℕ → ℕ → ℕ → Result ℕ ℕ
fine_value_at amount rate days = fine_value_in amount (bracket_at rate days)
