-- The laws of a text written piece by piece.
use mathlib.Core.Path.{◌≡◌, refl, sym, ap, ◌∙◌}
use mathlib.Core.List.{List, [], ◌∷◌, ◌++◌}
use Prim.Native.Nat.{ℕ, ◌+◌, ◌≤◌}
use native.Mathlib.Omega.{arith}
use lib.ListN.{length, set, drop, length-append}
use Rattle.layout.specs.Bytes.{put}
use Rattle.layout.proofs.Bytes.{then, put-none, put_byte, put-put, put_front, length-put}
use Rattle.text.specs.Text.{TextWritten, in_front}

pub written_none : (s : List ℕ) (at : ℕ) → TextWritten s at [] s at
written_none s at = record { bytes = sym (put-none s at); place = omega arith }

pub written_byte : (s : List ℕ) (at b : ℕ) → TextWritten s at (b ∷ []) (set s at b) (at + 1)
written_byte s at b = record { bytes = sym (put_byte s at b); place = omega arith }

-- one text, and another right behind it
pub and_then : {s : List ℕ} {at : ℕ} {p t : List ℕ} {i : ℕ} {q u : List ℕ} {j : ℕ} → TextWritten s at p t i → TextWritten t i q u j → TextWritten s at (p ++ q) u j
and_then {s} {at} {p} {t} {i} {q} a b =
    record { bytes = then s at p q a.bytes b.bytes a.place; place = omega (arith, length-append p q, a.place, b.place) }

-- from the start on: the text, and what lies past it
pub written-front : {s text t : List ℕ} {end : ℕ} → TextWritten s 0 text t end → end ≤ length s → (end ≡ length text) × (t ≡ text ++ drop end s)
written-front {s} {text} {t} {end} w h =
    let e : end ≡ length text = omega (arith, w.place) in
    (e, w.bytes ∙ put_front s text (omega arith) ∙ rw e)

-- a text that is another's in other words
pub written_as : (page : List ℕ) {s text t : List ℕ} {end : ℕ} → TextWritten s 0 text t end → text ≡ page → length page ≤ length s → (end ≡ length page) × (t ≡ in_front page s)
written_as page {s} {text} {t} {end} w e h =
    let long : end ≡ length page = omega (arith, w.place, ap length e) in
    let front = written-front w (omega (arith, long)) in
    (long, front.1 ∙ rw (e, long))

-- what a loop holds: a text is what is written, with what is left to write
pub record TextLeft (s : List ℕ) (at : ℕ) (text t : List ℕ) (next : ℕ) (rest : List ℕ) : Type 0 where
  pub lent : length t ≡ length s
  pub bytes : put s at text ≡ put t next rest
  pub place : at + length text ≡ next + length rest

pub text-all : (s : List ℕ) (at : ℕ) (text : List ℕ) → TextLeft s at text s at text
text-all s at text = record { lent = refl; bytes = refl; place = refl }

-- where there is room for all, there is for the next piece
pub text-room : (p rest : List ℕ) {s : List ℕ} {at : ℕ} {text t : List ℕ} {i : ℕ} → TextLeft s at text t i (p ++ rest) → at + length text ≤ length s → i + length p ≤ length t
text-room p rest l h = omega (arith, l.lent, l.place, length-append p rest)

pub text-next : {s : List ℕ} {at : ℕ} {text t : List ℕ} {i : ℕ} {p rest u : List ℕ} {j : ℕ} → TextLeft s at text t i (p ++ rest) → TextWritten t i p u j → TextLeft s at text u j rest
text-next {s} {at} {text} {t} {i} {p} {rest} l w =
    record {
      lent = rw (w.bytes, length-put) l.lent;
      bytes = l.bytes ∙ sym (put-put t i p rest) ∙ rw (w.bytes, w.place);
      place = omega (arith, l.place, w.place, length-append p rest);
    }

pub text-none : {s : List ℕ} {at : ℕ} {text t : List ℕ} {next : ℕ} → TextLeft s at text t next [] → TextWritten s at text t next
text-none {s} {at} {text} {t} {next} l =
    record { bytes = sym (l.bytes ∙ put-none t next); place = omega (arith, l.place) }
