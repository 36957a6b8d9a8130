-- A text and the space lent for it: 13, or the text in front.
use mathlib.Core.Path.{◌≡◌, refl, ap, ◌∙◌}
use mathlib.Core.Bool.{Bool}
use mathlib.Core.List.{List, ◌++◌}
use Prim.Native.Nat.{ℕ, ◌≤◌}
use borrow.Author.Tests.{ltb-false, le-ltb}
use lib.ListN.{length, take, drop}
use lib.Seq.{take_at}
use Rattle.std.specs.Prelude.{Result, Ok, Err}
use Rattle.ground.specs.declared.Ground.TheVariants.{ReportSpace}
use Rattle.ground.specs.declared.Refusal.{Refusal}
use Rattle.ground.specs.Verdicts.{Verdict, or_else, unless, bytes_after}
use Rattle.ground.specs.Space.{breaks_space, space_verdict}
use Rattle.ground.proofs.Verdicts.{unless-accepted}
use Rattle.text.specs.Text.{in_front}

-- what a call answers that writes a text, and the lent bytes afterwards
pub record Answered (text out : List ℕ) (r : Result ℕ Refusal) (after : List ℕ) : Type 0 where
  pub answer : r ≡ or_else (space_verdict (length text) (length out)) (Ok (length text))
  pub bytes : after ≡ bytes_after (space_verdict (length text) (length out)) out (in_front text out)

module _ (text out : List ℕ) where
  -- what `refuse_if` answers of the space for so many bytes
  pub space-judged : {v : Verdict} {broken : Bool} {needed : ℕ} → v ≡ unless broken ReportSpace 0 (Ok tt) → broken ≡ breaks_space needed (length out) → needed ≡ length text
      → space_verdict (length text) (length out) ≡ v
  space-judged e f g = rw (e, f, g) refl

  pub text-too-long : {r : Refusal} {answer : Result ℕ Refusal} → space_verdict (length text) (length out) ≡ Err r → answer ≡ Err r → Answered text out answer out
  text-too-long e f = record { answer = rw (e, f) refl; bytes = rw e refl }

  pub text-fits : space_verdict (length text) (length out) ≡ Ok tt → length text ≤ length out
  unfolding breaks_space
  text-fits e = ltb-false (length out) (length text) (unless-accepted _ ReportSpace 0 _ _ e).0

  pub text_in-front : space_verdict (length text) (length out) ≡ Ok tt → {n : ℕ} {after : List ℕ} → n ≡ length text → after ≡ in_front text out → Answered text out (Ok n) after
  text_in-front e p q = record { answer = rw (e, p) refl; bytes = rw e q }

  -- its n bytes copied from the first ones of a space that holds it
  pub text-copied : (rest : List ℕ) {whole copied : List ℕ} {n : ℕ} → n ≡ length text → whole ≡ text ++ rest → copied ≡ take n whole → copied ++ drop n out ≡ in_front text out
  text-copied rest {whole} {copied} {n} e w c =
      let first : take n whole ≡ text = rw (w, e) (take_at text rest (length text) refl) in
      rw (c ∙ first, e) refl

-- a space that suffices: the answer is the text's length, and no refusal
pub length-is : (text : List ℕ) (space : ℕ) → length text ≤ space → or_else (space_verdict (length text) space) (Ok (length text)) ≡ Ok (length text)
unfolding breaks_space
length-is text space h = rw (le-ltb space (length text) h) refl
