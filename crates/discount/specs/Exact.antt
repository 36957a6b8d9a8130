-- The exact value of a flow to the nearest, by the power inequality alone: no factor of the engine's stands here (document 01, "Present value";
-- document 02, wish 7).
use Rattle.std.specs.Prelude.{ℕ, ◌+◌, ◌-◌, ◌*◌, ◌^◌, Bool, leb}
use Rattle.laws.specs.Greatest.{greatest}
use Rattle.discount.specs.Discount.{million, year}

-- V is 0, or V less a half is at most amount × (1 + rate) to the power −days/365: (2V − 1)^365 × (10^6 + rate)^days ≤ (2 × amount)^365 × (10^6)^days.
-- Of V = 0 the left side is 0, as 2 * 0 - 1 is
abbrev pub exact_test : ℕ → ℕ → ℕ → ℕ → Bool
exact_test amount rate days v = leb ((2 * v - 1) ^ year * (million + rate) ^ days) ((2 * amount) ^ year * million ^ days)

-- "rounded to the nearest too, halves up": the largest V that passes; above the amount none does (proofs/Exactness.antt)
unfoldable pub exact : ℕ → ℕ → ℕ → ℕ
exact amount rate days = greatest (exact_test amount rate days) amount
