-- Products of numbers in fixed point (document 01, "Present value").
use Rattle.std.specs.Prelude.{ℕ, ◌*◌, ◌/◌}

-- "S = 10^12": one, in fixed point; and the largest amount
unfoldable pub unit : ℕ
unit = 1000000000000

-- "a × b / S rounded down"
unfoldable pub product : ℕ → ℕ → ℕ
product a b = a * b / unit
