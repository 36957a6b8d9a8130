-- A test of every number from i on, n of them: a loop that stops at the first that fails.
use Rattle.std.specs.Prelude.{Bool, true, ◌&&◌, ℕ}
use Rattle.laws.specs.Walk.{over}

unfoldable pub every : (ℕ → Bool) → ℕ → ℕ → Bool
every f i n = over (λ (k : ℕ) (rest : Bool). f k && rest) true i n
