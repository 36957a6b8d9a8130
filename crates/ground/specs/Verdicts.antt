-- The first refusal of several checks, and what a refused call leaves.
use Rattle.std.specs.Prelude.{Bool, cond, List, [], ◌∷◌, ℕ, Result, Ok, Err}
use Rattle.ground.specs.declared.Ground.{Ground}
use Rattle.ground.specs.declared.Refusal.{Refusal}

-- the answer of a check: nothing found, which is acceptance, or a refusal
abbrev pub Verdict : Type 0
Verdict = Result (Unit {0}) Refusal

-- refused by g in block k
abbrev pub refused : {A : Type 0} → Ground → ℕ → Result A Refusal
refused g k = Err (record { by = g; block = k })

-- the first verdict's refusal, or what comes next where it finds nothing
abbrev pub or_else : {A : Type 0} → Verdict → Result A Refusal → Result A Refusal
or_else (Ok nothing) next = next
or_else (Err r) next = Err r

-- refused by g in block k where the rule is broken, else what comes next
abbrev pub unless : {A : Type 0} → Bool → Ground → ℕ → Result A Refusal → Result A Refusal
unless broken g k next = cond broken (refused g k) next

-- a rule: whether it is broken, and its ground
abbrev pub Rule : Type 0
Rule = Bool × Ground

-- refused in block k by the first of the rules that is broken
abbrev pub first_broken : ℕ → List Rule → Verdict
first_broken k [] = Ok tt
first_broken k (r ∷ rules) = unless r.0 r.1 k (first_broken k rules)

-- the lent bytes after a call that writes them: "nothing lent is written" where it is refused
abbrev pub bytes_after : {A : Type 0} → Result A Refusal → List ℕ → List ℕ → List ℕ
bytes_after (Ok answer) before after = after
bytes_after (Err r) before after = before
