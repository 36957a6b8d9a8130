-- Logarithms and powers by tables. Logarithms are exponents of (scale - 1) / (scale + 1): a unit is 2 ^ -51 of a natural one.
use Rattle.std.specs.Prelude.{ℕ, zero, suc, ◌+◌, ◌-◌, ◌*◌, ◌/◌, ◌<◌, ◌≡◌, List, get_or}
use Rattle.discount.specs.Discount.{million}

-- 2 ^ 52; the base of the logarithms is base_numerator / base_denominator
unfoldable pub scale : ℕ
scale = 4503599627370496

unfoldable pub base_numerator : ℕ
base_numerator = 4503599627370495

unfoldable pub base_denominator : ℕ
base_denominator = 4503599627370497

-- ---- the logarithms

-- scale times u, for u = j / (2 m + j): m / (m + j) is (1 - u) / (1 + u)
unfoldable pub first_term : ℕ → ℕ → ℕ
first_term m j = scale * j / (2 * m + j)

-- from w, which is scale times u: scale times u ^ 3 / 3, a little less
unfoldable pub third_term : ℕ → ℕ
third_term w = w / 524288 * (w / 524288) / 64 * (w / 524288) / 6597170429952

-- the logarithm of m / (m + j), a little less
unfoldable pub step : ℕ → ℕ → ℕ
step m j = first_term m j + third_term (first_term m j)

-- row i: that of million / (million + 2048 i)
unfoldable pub log_of : ℕ → ℕ
log_of zero = 0
log_of (suc i) = log_of i + step (million + 2048 * i) 2048

-- what a millionth more adds to it, were it no less for the next: scale / (2 (million + 2048 i)), and 4 less, which makes up for the square of a rise
-- that is rounded down
unfoldable pub log_slope : ℕ → ℕ
log_slope i = 2251799813685248 / (million + 2048 * i) - 4

-- ---- the powers

-- one, while powers are multiplied: 2 ^ 60; and in a row of a table: 2 ^ 42
unfoldable pub power_whole : ℕ
power_whole = 1152921504606846976

unfoldable pub fine_whole : ℕ
fine_whole = 4398046511104

-- the j-th power of b, in parts of power_whole
unfoldable pub chain : ℕ → ℕ → ℕ
chain b zero = power_whole
chain b (suc j) = chain b j * b / power_whole

-- and in parts of fine_whole
unfoldable pub power_row : ℕ → ℕ → ℕ
power_row b j = chain b j / 262144

-- or of 2 ^ 31
unfoldable pub short_row : ℕ → ℕ → ℕ
short_row b j = chain b j / 536870912

-- the base of the logarithms to the powers 2 ^ 37 and 2 ^ 47, at most 16 parts less
unfoldable pub middle_base : ℕ
middle_base = 1152851138010109269

unfoldable pub upper_base : ℕ
upper_base = 1083069521826238936

-- ---- the tables

-- the first n places hold what f says of each
abbrev pub Filled : (ℕ → ℕ) → ℕ → List ℕ → Type 0
Filled f n rows = (k : ℕ) → k < n → get_or rows k 0 ≡ f k
