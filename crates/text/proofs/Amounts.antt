-- How long an amount's text is, and its column.
use mathlib.Core.Path.{◌≡◌, refl, sym, ap, ◌∙◌}
use mathlib.Core.List.{List, ◌++◌, append_assoc}
use Prim.Native.Nat.{ℕ, suc, ◌+◌, ◌-◌, ◌/◌, ◌%◌, ◌^◌, ◌≤◌, ◌<◌}
use native.Mathlib.Omega.{arith}
use lib.IntN.{ℤ, pos, negsuc, nat_abs}
use lib.ListN.{length, length-append, length-set, length-replicate, replicate-append-replicate}
use Rattle.text.specs.Text.{ascii, digits_within, decimal_of, with_sign}
use Rattle.text.specs.Columns.{blanks, money_text, amount_text, right_aligned, amount_column}
use Rattle.text.proofs.Digits.{decimal-one, length-below, length-decimal, length-rises}

pub length-blanks : (n : ℕ) → length (blanks n) ≡ n
length-blanks n = length-replicate n 32

pub one-digit : (n : ℕ) → n < 10 → length (decimal_of n) ≡ 1
one-digit n h = ap length (decimal-one n h)

-- the point and two digits behind those before it
pub length-money : (n : ℕ) → length (money_text n) ≡ length (decimal_of (n / 100)) + 3
unfolding money_text ascii
length-money n =
    simp (length-append, one-digit (n / 10 % 10) (omega arith), one-digit (n % 10) (omega arith)) (omega arith)

-- those of a number of 63 bits, or the next, and those of its lira
pub length-size : (n : ℕ) → n ≤ 2 ^ 63 → length (decimal_of n) ≤ 19
length-size n h = length-below 18 n (omega arith)

pub length-lira : (n : ℕ) → n ≤ 2 ^ 63 → length (decimal_of (n / 100)) ≤ 17
length-lira n h = length-below 16 (n / 100) (omega arith)

-- for the bounds of places
pub ruleset lengths = (length-decimal, length-size, length-lira, length-money, length-blanks, length-set)

-- an amount of 63 bits, or the next
pub length-amount : (z : ℤ) → nat_abs z ≤ 2 ^ 63 → length (amount_text z) ≤ 21
unfolding with_sign
length-amount (pos n) h = omega (arith, length-money n, length-below 16 (n / 100) (omega arith))
length-amount (negsuc n) h = omega (arith, length-money (suc n), length-below 16 (suc n / 100) (omega arith))

pub length-column : (z : ℤ) → length (amount_text z) ≤ 22 → length (amount_column z) ≡ 22
unfolding right_aligned
length-column z h = simp (length-append, length-blanks) (omega arith)

-- blanks and a column are a wider column
blanks-join : (n m : ℕ) (text : List ℕ) → blanks (n + m) ++ text ≡ blanks n ++ (blanks m ++ text)
blanks-join n m text = ap (λ (b : List ℕ). b ++ text) (sym (replicate-append-replicate n m 32)) ∙ append_assoc (blanks n) (blanks m) text

pub wider-column : (n : ℕ) (z : ℤ) → length (amount_text z) ≤ 22 → right_aligned (n + 22) z ≡ blanks n ++ amount_column z
unfolding right_aligned
wider-column n z h =
    let e : n + 22 - length (amount_text z) ≡ n + (22 - length (amount_text z)) = omega arith in
    rw e (blanks-join n (22 - length (amount_text z)) (amount_text z))

-- no text is longer than that of the largest amount, with its minus
pub length-largest : (z : ℤ) (largest : ℕ) → nat_abs z ≤ largest → length (amount_text z) ≤ suc (length (money_text largest))
unfolding with_sign
length-largest (pos n) largest h = omega (arith, length-money n, length-money largest, length-rises (n / 100) (largest / 100) (omega arith))
length-largest (negsuc n) largest h = omega (arith, length-money (suc n), length-money largest, length-rises (suc n / 100) (largest / 100) (omega arith))

-- "Zero is 0.00, 5 is 0.05.", and with a minus
pub amounts-shown : (amount_text (pos 0) ≡ ascii "0.00") × (amount_text (pos 5) ≡ ascii "0.05") × (amount_text (negsuc 4) ≡ ascii "-0.05")
unfolding ascii digits_within decimal_of with_sign money_text
amounts-shown = (refl, refl, refl)
