-- Which engine this is.
use Rattle.std.specs.Prelude.{ℕ}

-- the number of the last request of document 02 that it has
abbrev pub version : ℕ
version = 7
