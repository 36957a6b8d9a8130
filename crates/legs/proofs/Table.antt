-- The table of signs, and its rule, tested once over the whole table.
use Rattle.std.proofs.Common.{◌≡◌, ◌∙◌, refl, Bool, true, false, ◌&&◌, ℕ, ◌+◌, ◌-◌, ◌*◌, ◌/◌, ◌%◌, ◌≤◌, ◌<◌, List, [], ◌∷◌, Option, Some, None, get_or, arith, zero-add}
use mathlib.Core.Bool.{false≢true}
use native.Mathlib.Nat.{div-eq_of_lt-le}
use Rattle.laws.specs.Walk.{over, table}
use Rattle.laws.specs.Every.{every}
use Rattle.laws.proofs.Bools.{three}
use Rattle.laws.proofs.Every.{every-at}
use Rattle.laws.proofs.Walk.{get_d-table}
use Rattle.legs.specs.declared.signs.Direction.{Direction}
use Rattle.legs.specs.declared.signs.Direction.TheVariants.{In, Out}
use Rattle.legs.specs.declared.signs.Signs.{Signs}
use Rattle.legs.specs.Signs.{signs_of}

-- in, out, none
abbrev i : Option Direction
i = Some In

abbrev o : Option Direction
o = Some Out

abbrev z : Option Direction
z = None

-- first leg, second leg and payments of both sides, a line for each kind and phase: outright 0 to 3, pool 0 to 3, specified 0 to 3
abbrev pub signs : List (Option Direction)
signs =
    o ∷ z ∷ i ∷ i ∷ z ∷ o ∷
    z ∷ z ∷ z ∷ z ∷ z ∷ z ∷
    z ∷ z ∷ z ∷ z ∷ z ∷ z ∷
    z ∷ z ∷ z ∷ z ∷ z ∷ z ∷
    z ∷ z ∷ z ∷ z ∷ z ∷ z ∷
    i ∷ o ∷ z ∷ o ∷ i ∷ z ∷
    i ∷ o ∷ o ∷ o ∷ i ∷ i ∷
    z ∷ o ∷ i ∷ z ∷ z ∷ z ∷
    z ∷ z ∷ z ∷ z ∷ z ∷ z ∷
    i ∷ o ∷ o ∷ o ∷ i ∷ i ∷
    z ∷ o ∷ i ∷ z ∷ i ∷ o ∷
    z ∷ z ∷ z ∷ z ∷ z ∷ z ∷ []

-- row n: the entries of a kind, phase and side
abbrev pub row : ℕ → Signs
row n = record { first = get_or signs (n * 3) z; second = get_or signs (n * 3 + 1) z; payments = get_or signs (n * 3 + 2) z }

same_d : Option Direction → Option Direction → Bool
same_d None None = true
same_d None (Some b) = false
same_d (Some a) None = false
same_d (Some In) (Some In) = true
same_d (Some In) (Some Out) = false
same_d (Some Out) (Some In) = false
same_d (Some Out) (Some Out) = true

same : (x y : Option Direction) → same_d x y ≡ true → x ≡ y
unfolding same_d
same None None t = refl
same None (Some b) t = absurd (false≢true t)
same (Some a) None t = absurd (false≢true t)
same (Some In) (Some In) t = refl
same (Some In) (Some Out) t = absurd (false≢true t)
same (Some Out) (Some In) t = absurd (false≢true t)
same (Some Out) (Some Out) t = refl

-- row n is what the rule gives for its kind, phase and side
right : ℕ → Bool
right n =
    let r = row n in
    let s = signs_of (n / 8 + 1) (n / 2 % 4) (n % 2 + 1) in
    same_d r.first s.first && same_d r.second s.second && same_d r.payments s.payments

whole : every right 0 24 ≡ true
unfolding every over right same_d signs_of
whole = refl

pub rule : (n : ℕ) → n < 24 → row n ≡ signs_of (n / 8 + 1) (n / 2 % 4) (n % 2 + 1)
unfolding right
rule n h =
    let s = signs_of (n / 8 + 1) (n / 2 % 4) (n % 2 + 1) in
    let t = three (same_d (row n).first s.first) (same_d (row n).second s.second) (same_d (row n).payments s.payments) (every-at right 0 24 whole n (omega arith) (omega arith)) in
    λ k. record { first = same _ _ t.0 k; second = same _ _ t.1.0 k; payments = same _ _ t.1.1 k }

-- ---- the code's table has an array for each kind, in it one for each phase, and in that one for each side

abbrev pub Row : Type 0
Row = List (Option Direction)

abbrev entries : Signs → Row
entries s = s.first ∷ s.second ∷ s.payments ∷ []

abbrev place : ℕ → ℕ → ℕ → ℕ
place kind phase side = ((kind - 1) * 4 + phase) * 2 + (side - 1)

abbrev sides : ℕ → ℕ → List Row
sides kind phase = table (λ side. entries (row (place kind phase side))) 1 2

abbrev phases : ℕ → List (List Row)
phases kind = table (sides kind) 0 4

abbrev pub kinds : List (List (List Row))
kinds = table phases 1 3

-- the signs that a row has
abbrev pub signs_in : Row → Signs
signs_in r = record { first = get_or r 0 None; second = get_or r 1 None; payments = get_or r 2 None }

-- a table that has the rows above has the rule's signs at each place
pub at-place : (t : List (List (List Row))) → t ≡ kinds → (kind phase side : ℕ) → 1 ≤ kind → kind ≤ 3 → phase ≤ 3 → 1 ≤ side → side ≤ 2
    → signs_in (get_or (get_or (get_or t (kind - 1) []) phase []) (side - 1) []) ≡ signs_of kind phase side
at-place t e kind phase side k₁ k₂ p s₁ s₂ =
    let n = place kind phase side in
    let k : 1 + (kind - 1) ≡ kind = omega arith in
    let s : 1 + (side - 1) ≡ side = omega arith in
    let eighth : n / 8 ≡ kind - 1 = div-eq_of_lt-le 8 (omega arith) (omega arith) in
    let kind_is : n / 8 + 1 ≡ kind = omega arith in
    let half : n / 2 ≡ (kind - 1) * 4 + phase = div-eq_of_lt-le 2 (omega arith) (omega arith) in
    let phase_is : ((kind - 1) * 4 + phase) % 4 ≡ phase = omega arith in
    let side_is : n % 2 + 1 ≡ side = omega arith in
    rw (
      e,
      get_d-table phases 1 3 (kind - 1) [] (omega arith),
      k,
      get_d-table (sides kind) 0 4 phase [] (omega arith),
      zero-add phase,
      get_d-table (λ side. entries (row (place kind phase side))) 1 2 (side - 1) [] (omega arith),
      s,
    )
    (rule n (omega arith) ∙ rw (kind_is, half, phase_is, side_is))
