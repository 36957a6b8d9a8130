-- What the search for a day's factor goes by: the powers of a number and of the next one, and how far a number is from another.
use Rattle.std.specs.Prelude.{◌≡◌, ℕ, ◌+◌, ◌-◌}
use Rattle.discount.specs.Discount.{power}
use Rattle.discount.specs.declared.daily.Chains.{Chains}

-- two chains stand at the powers by k of q and of the next number
pub record PowersBy (q k : ℕ) (chains : Chains) : Type 0 where
  pub low-is : chains.low.0 ≡ power q k
  pub high_is : chains.high.0 ≡ power (q + 1) k

-- how far two numbers are apart
abbrev pub gap : ℕ → ℕ → ℕ
gap a b = (a - b) + (b - a)
