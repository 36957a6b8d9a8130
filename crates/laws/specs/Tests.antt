-- A list of tests.
use Rattle.std.specs.Prelude.{Bool, true, ◌&&◌, List, [], ◌∷◌}

-- t and all of ts
abbrev pub all_from : Bool → List Bool → Bool
all_from t [] = t
all_from t (u ∷ ts) = all_from (t && u) ts

-- all hold: t && u && .., as a line of code joins them
abbrev pub all : List Bool → Bool
all [] = true
all (t ∷ ts) = all_from t ts
