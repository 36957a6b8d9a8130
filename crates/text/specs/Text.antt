-- Words and numbers as bytes of ASCII (document 01, "Checked figures"), and a text written into lent bytes.
use Rattle.std.specs.Prelude.{ℕ, zero, suc, ◌+◌, ◌/◌, ◌%◌, cond, ◌≡◌, List, [], ◌∷◌, ◌++◌, eqb, ltb, ℤ, pos, negsuc, length, drop}
use Prim.Native.Char.{code}
use Prim.Native.String.{String}
use Prim.Native.String as string
use Rattle.layout.specs.Bytes.{put}

-- a word's characters
unfoldable pub ascii : String → List ℕ
ascii string.[] = []
ascii (string.◌∷◌ c s) = code c ∷ ascii s

-- the character of a digit: that of 0 is 48
abbrev pub digit : ℕ → ℕ
digit d = 48 + d

-- a number of at most so many digits: one digit below ten, else those of its tenth and its last
unfoldable pub digits_within : ℕ → ℕ → List ℕ
digits_within zero n = []
digits_within (suc k) n = cond (ltb n 10) (digit n ∷ []) (digits_within k (n / 10) ++ (digit (n % 10) ∷ []))

-- a number below 10 ^ 20 in plain decimal, so any of 64 bits
unfoldable pub decimal_of : ℕ → List ℕ
decimal_of n = digits_within 20 n

-- a number's text, with "a minus directly before a negative one": that of − is 45
unfoldable pub with_sign : (ℕ → List ℕ) → ℤ → List ℕ
with_sign text (pos n) = text n
with_sign text (negsuc n) = 45 ∷ text (suc n)

abbrev pub signed_text : ℤ → List ℕ
signed_text z = with_sign decimal_of z

-- a currency's letters: 1 TRY, 2 USD, 3 EUR. A book that is accepted has no other
unfoldable pub letters : ℕ → List ℕ
letters c = cond (eqb c 1) (ascii "TRY") (cond (eqb c 2) (ascii "USD") (cond (eqb c 3) (ascii "EUR") (ascii "???")))

-- a word and a number
abbrev pub figure : String → ℕ → List ℕ
figure word n = ascii word ++ decimal_of n

abbrev pub signed_figure : String → ℤ → List ℕ
signed_figure word z = ascii word ++ signed_text z

-- a word and a currency
abbrev pub currency_named : String → ℕ → List ℕ
currency_named word c = ascii word ++ letters c

-- a line for each of a list, numbered from k
unfoldable pub lines_of : {A : Type 0} → (ℕ → A → List ℕ) → ℕ → List A → List ℕ
lines_of line k [] = []
lines_of line k (x ∷ xs) = line k x ++ lines_of line (suc k) xs

-- t is s with the text from a place on, and end is the place behind the text
pub record TextWritten (s : List ℕ) (at : ℕ) (text t : List ℕ) (end : ℕ) : Type 0 where
  pub bytes : t ≡ put s at text
  pub place : end ≡ at + length text

-- the lent bytes with a text in front, "bytes behind it keep"
abbrev pub in_front : List ℕ → List ℕ → List ℕ
in_front text out = text ++ drop (length text) out
