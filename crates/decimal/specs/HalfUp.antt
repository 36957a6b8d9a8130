-- Quotients rounded to the nearest, halves up, once (document 01, "Flows"; document 02, wish 7).
use Rattle.std.specs.Prelude.{ℕ, ◌+◌, ◌*◌, ◌/◌, leb, Option}
use Rattle.std.specs.Bool.{then_some}
use Rattle.decimal.specs.Product.{unit}

-- n / d to the nearest whole, halves up
unfoldable pub half_up : ℕ → ℕ → ℕ
half_up n d = (n * 2 + d) / (d * 2)

-- "× .. / 10^6": so many millionths of an amount
unfoldable pub millionths_of : ℕ → ℕ → ℕ
millionths_of amount millionths = half_up (amount * millionths) 1000000

-- "cash × rate × term / (365 × 10^6)"
unfoldable pub interest_on : ℕ → ℕ → ℕ → ℕ
interest_on cash rate term = half_up (cash * rate * term) 365000000

-- "withholding 15% of that"
unfoldable pub withholding_on : ℕ → ℕ
withholding_on interest = half_up (interest * 15) 100

-- "× settlement index / issue index"
unfoldable pub indexed_by : ℕ → ℕ → ℕ → ℕ
indexed_by settlement issue payment = half_up (payment * settlement) issue

-- "amount × factor / S", "half-up on the amount"
unfoldable pub discounted : ℕ → ℕ → ℕ
discounted amount factor = half_up (amount * factor) unit

-- an amount where it is at most the largest
unfoldable pub scaled_to : ℕ → Option ℕ
scaled_to n = then_some (leb n unit) n
