-- How far two integers are apart.
use Rattle.std.specs.Prelude.{ℕ, ℤ, pos, ◌+ℤ◌, ◌≤ℤ◌}

-- a is at most b + t
pub record Below (a b : ℤ) (t : ℕ) : Type 0 where
  pub below : a ≤ℤ (b +ℤ pos t)

-- a and b are at most t apart: nat_abs (a -ℤ b) ≤ t, as `within-abs` of proofs/Integer.antt shows
pub record Within (a b : ℤ) (t : ℕ) : Type 0 where
  pub low : Below a b t
  pub high : Below b a t
