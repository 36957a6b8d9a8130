-- What the list program prints: the text of the input's first bytes.
use mathlib.Core.Path.{◌≡◌, sym, ap, ◌∙◌}
use mathlib.Core.List.{List, ◌++◌}
use mathlib.Core.Logic.{⊎_elim}
use Prim.Native.Nat.{ℕ, ◌≤◌, ◌<◌}
use native.Mathlib.Omega.{arith}
use borrow.Author.Tests.{le-ltb}
use lib.ListN.{length, take, drop}
use Rattle.std.proofs.Common.{Option, None, Some, IfSome, Result, Ok, Err, OnOk, subst}
use Rattle.std.specs.Io.KnownBytes.{Appends, Consumes, IsAtEnd}
use Rattle.std.proofs.lemmas.Bool.{cases_lt}
use Rattle.std.proofs.lemmas.List.{append-nil, take_at, take_all}
use Rattle.ground.specs.Space.{breaks_space}
use Rattle.list.specs.Text.{list_text, list_bytes, printed}

-- a space that suffices has the text in front
pub text-in-front : (s : List ℕ) (used : ℕ) (out : List ℕ) {after : List ℕ} {n : ℕ} → after ≡ list_bytes s used out → length (list_text s used) ≤ length out
    → n ≡ length (list_text s used) → take n after ≡ list_text s used
unfolding list_bytes breaks_space
text-in-front s used out {after} {n} e h f =
    let written : after ≡ list_text s used ++ drop (length (list_text s used)) out = e ∙ rw (le-ltb (length out) (length (list_text s used)) h) in
    ap (take n) written ∙ take_at (list_text s used) (drop (length (list_text s used)) out) n (sym f)

-- what was read until the space was full or the input ended
read-first : (input : List ℕ) (left : Option (List ℕ)) (read : List ℕ) → Consumes (Some input) left read → (length read < 65537 → IsAtEnd left) → length read ≤ 65537
    → read ≡ take 65537 input
read-first input None read p q h = absurd p
read-first input (Some rest) read p q h =
    ⊎_elim
    (λ b. let e : input ≡ read = p ∙ ap (λ (l : List ℕ). read ++ l) (q b) ∙ append-nil read in rw e (sym (take_all 65537 read h)))
    (λ f. rw p (sym (take_at read rest 65537 (omega arith))))
    (cases_lt (length read) 65537)

pub printed-of : {E : Type 0} (before left old new : Option (List ℕ)) (r : Result Unit E) (read written : List ℕ) (used : ℕ)
    → Consumes before left read → (used < 65537 → IsAtEnd left) → used ≤ 65537 → used ≡ length read
    → OnOk r (Appends old new written) → written ≡ list_text read used
    → OnOk r (IfSome before (λ input. Appends old new (printed input)))
printed-of before left old new (Err x) read written used p q h l a e = tt
printed-of None left old new (Ok x) read written used p q h l a e = tt
printed-of (Some input) left old new (Ok x) read written used p q h l a e =
    let first : read ≡ take 65537 input = read-first input left read p (λ b. q (omega arith)) (omega arith) in
    subst (Appends old new) (e ∙ ap (list_text read) l ∙ ap (λ (b : List ℕ). list_text b (length b)) first) a
