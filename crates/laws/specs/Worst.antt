-- The first of several with the largest value.
use Rattle.std.specs.Prelude.{cond, List, [], ◌∷◌, ℤ}
use Rattle.std.specs.Int.Signed.{lt_z}

-- of a and those of the list, the first with the largest l: a later one takes its place only where its l is larger
unfoldable pub worst : {A : Type 0} → (A → ℤ) → A → List A → A
worst l a [] = a
worst l a (x ∷ xs) = worst l (cond (lt_z (l a) (l x)) x a) xs
