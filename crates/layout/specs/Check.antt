-- The check of a block, and its place (document 01, "Blocks of the book").
use Rattle.std.specs.Prelude.{ℕ, zero, suc, ◌+◌, ◌*◌, ◌%◌, ◌^◌, Bool, not, ◌&&◌, List, ◌==◌}
use Rattle.layout.specs.Bytes.{byte_at, put}
use Rattle.layout.specs.Field.{u16_at, u32_at, bytes_of}

-- the first n 32-bit words added to 1, wrapping at 2 ^ 32
unfoldable pub words : List ℕ → ℕ → ℕ
words b zero = 1
words b (suc n) = (words b n + u32_at b (n * 4)) % 2 ^ 32

-- the first 127 words
unfoldable pub check_of : List ℕ → ℕ
check_of b = words b 127

-- the block with its check written
unfoldable pub sealed : List ℕ → List ℕ
sealed b = put b 508 (bytes_of 4 (check_of b))

-- ground 2: the check differs
unfoldable pub breaks_check : List ℕ → Bool
breaks_check b = not (u32_at b 508 == check_of b)

-- ground 3: the kind or the block number is not the one that the place calls for
unfoldable pub breaks_place : List ℕ → ℕ → ℕ → Bool
breaks_place b kind number = not (byte_at b 0 == kind && u16_at b 2 == number)
