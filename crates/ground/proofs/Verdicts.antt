-- The laws of verdicts: what an accepted one says of each rule, and rules that are asked one behind the other.
use mathlib.Core.Path.{◌≡◌, refl, sym, ◌∙◌}
use mathlib.Core.Bool.{Bool, true, false}
use mathlib.Core.List.{List, [], ◌∷◌}
use Prim.Native.Nat.{ℕ, zero, suc}
use lib.ListN.{get_or}
use Rattle.std.specs.Prelude.{Result, Ok, Err, IsErrAnd}
use Rattle.ground.specs.declared.Ground.{Ground}
use Rattle.ground.specs.declared.Ground.TheVariants.{Length}
use Rattle.ground.specs.declared.Refusal.{Refusal}
use Rattle.ground.specs.Verdicts.{Verdict, or_else, unless, Rule, first_broken}

pub unless-accepted : {A : Type 0} (broken : Bool) (g : Ground) (k : ℕ) (next : Result A Refusal) (x : A) → unless broken g k next ≡ Ok x → (broken ≡ false) × (next ≡ Ok x)
unless-accepted false g k next x h = (refl, h)
unless-accepted true g k next x h = cc

pub or_else-accepted : {A : Type 0} (first : Verdict) (next : Result A Refusal) (x : A) → or_else first next ≡ Ok x → (first ≡ Ok tt) × (next ≡ Ok x)
or_else-accepted (Ok tt) next x h = (refl, h)
or_else-accepted (Err r) next x h = cc

-- none of the rules is broken: the rule in place i, from 0; on a list that is written out it computes to that rule
pub unbroken : (k : ℕ) (rules : List Rule) → first_broken k rules ≡ Ok tt → (i : ℕ) → (get_or rules i (false, Length)).0 ≡ false
unbroken k [] h i = refl
unbroken k (r ∷ rules) h zero = (unless-accepted r.0 r.1 k (first_broken k rules) tt h).0
unbroken k (r ∷ rules) h (suc i) = unbroken k rules (unless-accepted r.0 r.1 k (first_broken k rules) tt h).1 i

-- in whatever block
pub in-any-block : (k : ℕ) (rules : List Rule) → first_broken k rules ≡ Ok tt → (m : ℕ) → first_broken m rules ≡ Ok tt
in-any-block k [] h m = refl
in-any-block k (r ∷ rules) h m = let p = unless-accepted r.0 r.1 k (first_broken k rules) tt h in rw p.0 (in-any-block k rules p.1 m)

-- ---- one behind the other

pub passes : {A : Type 0} {v : Verdict} (next : Result A Refusal) → v ≡ Ok tt → or_else v next ≡ next
passes next h = rw h

pub stops : {A : Type 0} {v : Verdict} {r : Refusal} (next : Result A Refusal) → v ≡ Err r → or_else v next ≡ Err r
stops next h = rw h

-- v, then the rules, each asked where those before it find nothing
abbrev pub in_turn : Verdict → ℕ → List Rule → Verdict
in_turn v k [] = v
in_turn v k (r ∷ rules) = in_turn (or_else v (unless r.0 r.1 k (Ok tt))) k rules

pub in-turn : (v : Verdict) (k : ℕ) (rules : List Rule) → in_turn v k rules ≡ or_else v (first_broken k rules)
in-turn (Ok tt) k [] = refl
in-turn (Err e) k [] = refl
in-turn (Ok tt) k (r ∷ rules) = in-turn (unless r.0 r.1 k (Ok tt)) k rules ∙ go r.0
  where
    go : (broken : Bool) → or_else (unless broken r.1 k (Ok tt)) (first_broken k rules) ≡ unless broken r.1 k (first_broken k rules)
    go true = refl
    go false = refl
in-turn (Err e) k (r ∷ rules) = in-turn (Err e) k rules

-- a rule asked behind a verdict, by what the verdict and its test are
pub also : {v w r : Verdict} {broken rule : Bool} (g : Ground) (k : ℕ) → v ≡ w → broken ≡ rule → r ≡ or_else v (unless broken g k (Ok tt)) → r ≡ or_else w (unless rule g k (Ok tt))
also g k e f h = h ∙ rw (e, f)

-- past a refusal no rule matters
pub stopped : {v w : Verdict} {r : Refusal} (k : ℕ) (more : List Rule) → v ≡ w → v ≡ Err r → v ≡ in_turn w k more
stopped {v} {w} k more e h = h ∙ sym (in-turn w k more ∙ stops (first_broken k more) (sym e ∙ h))

-- and past an acceptance none was broken
pub passed : {v : Verdict} (k : ℕ) (rules : List Rule) → v ≡ in_turn (Ok tt) k rules → v ≡ Ok tt → (i : ℕ) → (get_or rules i (false, Length)).0 ≡ false
passed k rules e h = unbroken k rules (sym (in-turn (Ok tt) k rules) ∙ sym e ∙ h)

-- what leaves a function by `?` is the refusal that was passed to it
pub passed-on : {A : Type 0} (result : Result A Refusal) {e : Refusal} → IsErrAnd result (λ y. y ≡ e) → result ≡ Err e
passed-on (Ok x) h = absurd h
passed-on (Err y) h = rw h

-- a broken rule refuses whatever comes next
pub unless-refused : {A B : Type 0} (broken : Bool) (g : Ground) (k : ℕ) {r : Refusal} (x : A) (next : Result B Refusal) → unless broken g k (Ok x) ≡ Err r → unless broken g k next ≡ Err r
unless-refused true g k x next h = cc
unless-refused false g k x next h = cc

-- past a call of `refuse_if` its rule is not broken
pub not-broken : {r : Verdict} {broken rule : Bool} (g : Ground) (k : ℕ) → broken ≡ rule → r ≡ unless broken g k (Ok tt) → r ≡ Ok tt → rule ≡ false
not-broken {r} {broken} {rule} g k e f h = sym e ∙ (unless-accepted broken g k (Ok tt) tt (sym f ∙ h)).0
