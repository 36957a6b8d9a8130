-- A text read again is what was written: a number's digits, and an amount's column.
use mathlib.Core.Path.{◌≡◌, refl, sym, ap, ◌∙◌}
use mathlib.Core.List.{List, [], ◌∷◌, ◌++◌, append_assoc, append-nil}
use Prim.Native.Nat.{ℕ, zero, suc, ◌+◌, ◌-◌, ◌*◌, ◌/◌, ◌%◌, ◌^◌, ◌≤◌, ◌<◌}
use native.Mathlib.Nat.{pow-zero, pow-suc}
use native.Mathlib.Decide.{dec_lt}
use native.Mathlib.Omega.{arith}
use borrow.Author.Tests.{ne_eqb}
use lib.IntN.{ℤ, pos, negsuc, neg_ℤ, nat_abs}
use lib.ListN.{length}
use Rattle.text.specs.Text.{ascii, digit, digits_within, decimal_of, with_sign}
use Rattle.text.specs.Columns.{blanks, money_text, right_aligned, amount_column}
use Rattle.text.specs.Reading.{read_digits, read_money, read_amount}
use Rattle.text.proofs.Digits.{within-one, within_more, decimal-one}

-- a reader that goes on digit by digit
module _ (read : ℕ → List ℕ → ℕ) (step : (before d : ℕ) (rest : List ℕ) → d < 10 → read before (digit d ∷ rest) ≡ read (10 * before + d) rest) where
  first : (d : ℕ) (rest : List ℕ) → d < 10 → read 0 (digit d ∷ rest) ≡ read d rest
  first d rest h = step 0 d rest h ∙ ap (λ (m : ℕ). read m rest) (omega arith)

  within : (k n : ℕ) (rest : List ℕ) → n < 10 ^ suc k → read 0 (digits_within (suc k) n ++ rest) ≡ read n rest
  within zero n rest h =
      let l : n < 10 = omega (arith, pow-suc 10 0, pow-zero 10) in
      rw (within-one 0 n l) (first n rest l)
  within (suc k) n rest h =
      go (dec_lt n 10) (within k (n / 10) (digit (n % 10) ∷ rest) (omega (arith, pow-suc 10 (suc k))))
    where
      go : Dec (n < 10) → read 0 (digits_within (suc k) (n / 10) ++ (digit (n % 10) ∷ rest)) ≡ read (n / 10) (digit (n % 10) ∷ rest)
          → read 0 (digits_within (suc (suc k)) n ++ rest) ≡ read n rest
      go (yes l) ih = rw (within-one (suc k) n l) (first n rest l)
      go (no l) ih =
          let e : 10 * (n / 10) + n % 10 ≡ n = omega arith in
          rw (within_more (suc k) n (omega arith), append_assoc (digits_within (suc k) (n / 10)) (digit (n % 10) ∷ []) rest)
          (ih ∙ step (n / 10) (n % 10) rest (omega arith) ∙ ap (λ (m : ℕ). read m rest) e)

  read_behind : (n : ℕ) (rest : List ℕ) → n < 2 ^ 64 → read 0 (decimal_of n ++ rest) ≡ read n rest
  unfolding decimal_of
  read_behind n rest h = within 19 n rest (omega arith)

digit-read : (before d : ℕ) (rest : List ℕ) → d < 10 → read_digits before (digit d ∷ rest) ≡ read_digits (10 * before + d) rest
digit-read before d rest h = ap (λ (m : ℕ). read_digits m rest) (omega arith)

-- a number's text is the number
pub read-decimal : (n : ℕ) → n < 2 ^ 64 → read_digits 0 (decimal_of n) ≡ n
read-decimal n h = ap (read_digits 0) (sym (append-nil (decimal_of n))) ∙ read_behind read_digits digit-read n [] h

lira-read : (lira d : ℕ) (rest : List ℕ) → d < 10 → read_money lira (digit d ∷ rest) ≡ read_money (10 * lira + d) rest
lira-read lira d rest h =
    let e : 10 * lira + (digit d - 48) ≡ 10 * lira + d = omega arith in
    rw (ne_eqb (digit d) 46 (omega arith), e)

read-money : (n : ℕ) → n < 2 ^ 64 → read_money 0 (money_text n) ≡ n
unfolding money_text ascii
read-money n h =
    let lira = decimal_of (n / 100) in
    let tens = n / 10 % 10 in
    let ones = n % 10 in
    rw (decimal-one tens (omega arith), decimal-one ones (omega arith))
    (ap (read_money 0) (append_assoc (lira ++ (46 ∷ [])) (digit tens ∷ []) (digit ones ∷ []) ∙ append_assoc lira (46 ∷ []) (digit tens ∷ digit ones ∷ []))
    ∙ read_behind read_money lira-read (n / 100) (46 ∷ digit tens ∷ digit ones ∷ []) (omega arith)
    ∙ omega arith)

-- ---- a column

behind-blanks : (n : ℕ) (text : List ℕ) → read_amount (blanks n ++ text) ≡ read_amount text
behind-blanks zero text = refl
behind-blanks (suc n) text = behind-blanks n text

-- a text that starts with a digit, so with neither of them
record DigitFirst (text : List ℕ) : Type 0 where
  pub first : ℕ
  pub rest : List ℕ
  pub whole : text ≡ first ∷ rest
  pub high : 48 ≤ first

longer : {text : List ℕ} → DigitFirst text → (more : List ℕ) → DigitFirst (text ++ more)
longer d more = record { first = d.first; rest = d.rest ++ more; whole = rw d.whole; high = d.high }

first-within : (k n : ℕ) → DigitFirst (digits_within (suc k) n)
unfolding digits_within
first-within zero n = go (dec_lt n 10)
  where
    go : Dec (n < 10) → DigitFirst (digits_within 1 n)
    go (yes l) = record { first = digit n; rest = []; whole = within-one 0 n l; high = omega arith }
    go (no l) = record { first = digit (n % 10); rest = []; whole = within_more 0 n (omega arith); high = omega arith }
first-within (suc k) n = go (dec_lt n 10) (first-within k (n / 10))
  where
    go : Dec (n < 10) → DigitFirst (digits_within (suc k) (n / 10)) → DigitFirst (digits_within (suc (suc k)) n)
    go (yes l) ih = record { first = digit n; rest = []; whole = within-one (suc k) n l; high = omega arith }
    go (no l) ih = rw (within_more (suc k) n (omega arith)) (longer ih (digit (n % 10) ∷ []))

money-first : (n : ℕ) → DigitFirst (money_text n)
unfolding money_text decimal_of
money-first n = longer (longer (longer (first-within 19 (n / 100)) _) _) _

natural-read : {text : List ℕ} → DigitFirst text → read_amount text ≡ pos (read_money 0 text)
natural-read d = rw (d.whole, ne_eqb d.first 32 (omega (arith, d.high)), ne_eqb d.first 45 (omega (arith, d.high)))

-- the amount of a column is the one that was written
pub read-amount : (z : ℤ) → nat_abs z < 2 ^ 64 → read_amount (amount_column z) ≡ z
unfolding right_aligned with_sign
read-amount (pos n) h = behind-blanks (22 - length (money_text n)) (money_text n) ∙ natural-read (money-first n) ∙ ap pos (read-money n h)
read-amount (negsuc n) h = behind-blanks (22 - length (45 ∷ money_text (suc n))) (45 ∷ money_text (suc n)) ∙ ap (λ (m : ℕ). neg_ℤ (pos m)) (read-money (suc n) h)
