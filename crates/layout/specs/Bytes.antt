-- Bytes of a list by their place: read, tested for zeros, written over.
use Rattle.std.specs.Prelude.{ℕ, suc, ◌-◌, ◌<◌, Bool, List, [], ◌∷◌, take, drop, nat_eq, slice_index, slice_set}
use Rattle.laws.specs.Every.{every}

abbrev pub byte_at : List ℕ → ℕ → ℕ
byte_at s at = slice_index s at

-- the n bytes from a place on
abbrev pub part : List ℕ → ℕ → ℕ → List ℕ
part s at n = take n (drop at s)

-- s with bs written over it from a place on: a field, a record, a block
unfoldable pub put : List ℕ → ℕ → List ℕ → List ℕ
put s at [] = s
put s at (b ∷ bs) = put (slice_set s at b) (suc at) bs

-- the list with the block of 512 bytes at a place changed, and nothing else
unfoldable pub on_block : (List ℕ → List ℕ) → List ℕ → ℕ → List ℕ
on_block f s at = put s at (f (part s at 512))

-- all bytes from one place up to, not including, another are 0
unfoldable pub zeros : List ℕ → ℕ → ℕ → Bool
zeros s from to = every (λ (k : ℕ). nat_eq (byte_at s k) 0) from (to - from)

-- every element is a byte
abbrev pub AreBytes : List ℕ → Type 0
AreBytes s = (k : ℕ) → byte_at s k < 256
