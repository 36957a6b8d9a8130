-- Discount factors and present values (document 01, "Present value"; document 02, wish 7). Every definition stays shut: proofs use the laws of
-- proofs/, so that nothing here is computed at 10^12 but where an example says so.
use Rattle.std.specs.Prelude.{ℕ, zero, suc, ◌+◌, ◌-◌, ◌*◌, ◌/◌, ◌%◌, Bool, leb}
use Rattle.laws.specs.Greatest.{greatest}
use Rattle.decimal.specs.Product.{unit, product}
use Rattle.decimal.specs.HalfUp.{discounted}

-- one, in a rate: rates are in millionths
unfoldable pub million : ℕ
million = 1000000

-- the days of a year
unfoldable pub year : ℕ
year = 365

-- "Y = S × 10^6 / (10^6 + rate) rounded down"
unfoldable pub yearly : ℕ → ℕ
yearly rate = unit * million / (million + rate)

-- a, then the product with q, k times
unfoldable pub compound : ℕ → ℕ → ℕ → ℕ
compound a q zero = a
compound a q (suc k) = product (compound a q k) q

-- "The power of q by k starts at S and takes the product with q, k times"
unfoldable pub power : ℕ → ℕ → ℕ
power q k = compound unit q k

abbrev pub root_test : ℕ → ℕ → Bool
root_test y q = leb (power q year) y

-- "the largest number up to S whose power by 365 is at most Y"
unfoldable pub root : ℕ → ℕ
root y = greatest (root_test y) unit

abbrev pub daily : ℕ → ℕ
daily rate = root (yearly rate)

-- "For 365n + k days, k below 365, the factor is the power of q by k, then the product with Y, n times"
unfoldable pub factor : ℕ → ℕ → ℕ
factor rate days = compound (power (daily rate) (days % year)) (yearly rate) (days / year)

-- "Present value: amount × factor / S", which "becomes half-up on the amount, before the sign"
unfoldable pub present_value : ℕ → ℕ → ℕ → ℕ
present_value amount rate days = discounted amount (factor rate days)

-- "The tolerance, which is shown too, is the sum over the curve's flows of amount × 2(k + n) / 10^12, each rounded up, where days = 365n + k
-- and k is below 365": first the k + n, how many products a factor takes,
unfoldable pub products : ℕ → ℕ
products days = days % year + days / year

-- and the tolerance of one flow, two units of a factor's last place for each product; the sum is `sum flow_tolerance` (Flows.antt)
unfoldable pub tolerance : ℕ → ℕ → ℕ
tolerance amount days = (amount * (2 * products days) + (unit - 1)) / unit
