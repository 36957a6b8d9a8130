-- Fields (document 01: "Fields are little-endian, unsigned unless marked i.").
use Rattle.std.specs.Prelude.{ℕ, zero, suc, ◌+◌, ◌-◌, ◌*◌, ◌/◌, ◌%◌, ◌^◌, cond, List, [], ◌∷◌, ℤ, pos, negsuc, ◌-ℤ◌, nat_lt}
use Rattle.layout.specs.Bytes.{byte_at}

-- the number of n bytes from a place on, the lowest first
unfoldable pub number_at : ℕ → List ℕ → ℕ → ℕ
number_at zero s at = 0
number_at (suc n) s at = byte_at s at + 256 * number_at n s (suc at)

abbrev pub u16_at : List ℕ → ℕ → ℕ
u16_at s at = number_at 2 s at

abbrev pub u32_at : List ℕ → ℕ → ℕ
u32_at s at = number_at 4 s at

abbrev pub u64_at : List ℕ → ℕ → ℕ
u64_at s at = number_at 8 s at

-- the n low bytes of a number, the lowest first
unfoldable pub bytes_of : ℕ → ℕ → List ℕ
bytes_of zero v = []
bytes_of (suc n) v = v % 256 ∷ bytes_of n (v / 256)

-- two's complement: a number of so many bits stands for itself in the lower half, in the upper for the one 2 ^ bits below
unfoldable pub signed_of : ℕ → ℕ → ℤ
signed_of bits n = cond (nat_lt n (2 ^ (bits - 1))) (pos n) (pos n -ℤ pos (2 ^ bits))

abbrev pub i32_at : List ℕ → ℕ → ℤ
i32_at s at = signed_of 32 (u32_at s at)

abbrev pub i64_at : List ℕ → ℕ → ℤ
i64_at s at = signed_of 64 (u64_at s at)

-- and back: the 64 bits of a signed number
unfoldable pub twos : ℤ → ℕ
twos (pos n) = n
twos (negsuc n) = 2 ^ 64 - suc n
