-- A text read again: the number of its digits, and the amount of a column.
use Rattle.std.specs.Prelude.{ℕ, ◌+◌, ◌-◌, ◌*◌, cond, List, [], ◌∷◌, eqb, ℤ, pos, neg_ℤ}

-- digits from the left, behind what was read before: ten times that, and the digit
abbrev pub read_digits : ℕ → List ℕ → ℕ
read_digits before [] = before
read_digits before (c ∷ cs) = read_digits (10 * before + (c - 48)) cs

-- what stands before the point, which is 46, is lira, and what stands behind it kuruş
abbrev pub read_money : ℕ → List ℕ → ℕ
read_money lira [] = 100 * lira
read_money lira (c ∷ cs) = cond (eqb c 46) (100 * lira + read_digits 0 cs) (read_money (10 * lira + (c - 48)) cs)

-- blanks, which are 32, are passed over, and a minus, which is 45, turns what follows
abbrev pub read_amount : List ℕ → ℤ
read_amount [] = pos 0
read_amount (c ∷ cs) = cond (eqb c 32) (read_amount cs) (cond (eqb c 45) (neg_ℤ (pos (read_money 0 cs))) (pos (read_money 0 (c ∷ cs))))
