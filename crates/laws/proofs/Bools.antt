-- What a test made of tests says of its parts.
use mathlib.Core.Path.{◌≡◌, refl}
use mathlib.Core.Bool.{Bool, true, false, ◌&&◌, ◌||◌, not, cond, true≢false, false≢true}
use mathlib.Core.Logic.{◌⊎◌, inl, inr}

-- ---- all of them hold

pub both : (a b : Bool) → (a && b) ≡ true → (a ≡ true) × (b ≡ true)
both true true h = (refl, refl)
both true false h = absurd (false≢true h)
both false b h = absurd (false≢true h)

pub three : (a b c : Bool) → (a && b && c) ≡ true → (a ≡ true) × ((b ≡ true) × (c ≡ true))
three a b c h = let p = both (a && b) c h in let q = both a b p.0 in (q.0, (q.1, p.1))

pub four : (a b c d : Bool) → (a && b && c && d) ≡ true → (a ≡ true) × ((b ≡ true) × ((c ≡ true) × (d ≡ true)))
four a b c d h = let p = both (a && b && c) d h in let q = three a b c p.0 in (q.0, (q.1.0, (q.1.1, p.1)))

pub six : (a b c d e f : Bool) → (a && b && c && d && e && f) ≡ true →
    (a ≡ true) × ((b ≡ true) × ((c ≡ true) × ((d ≡ true) × ((e ≡ true) × (f ≡ true)))))
six a b c d e f h =
    let p = three (a && b && c && d) e f h in
    let q = four a b c d p.0 in
    (q.0, (q.1.0, (q.1.1.0, (q.1.1.1, p.1))))

-- ---- one of them holds

pub either : (a b : Bool) → (a || b) ≡ true → (a ≡ true) ⊎ (b ≡ true)
either true b h = inl refl
either false b h = inr h

-- ---- none of them holds

pub neither : (a b : Bool) → (a || b) ≡ false → (a ≡ false) × (b ≡ false)
neither true b h = absurd (true≢false h)
neither false b h = (refl, h)

-- ---- a choice

-- as straight-line code makes it
pub choice : (test a b : Bool) → (test && a || not test && b) ≡ cond test a b
choice true true b = refl
choice true false b = refl
choice false a b = refl

-- and where it holds, the arm that was taken does
pub first-arm : (test a b : Bool) → cond test a b ≡ true → test ≡ true → a ≡ true
first-arm true a b h e = h
first-arm false a b h e = absurd (false≢true e)

pub other_arm : (test a b : Bool) → cond test a b ≡ true → test ≡ false → b ≡ true
other_arm true a b h e = absurd (true≢false e)
other_arm false a b h e = h
