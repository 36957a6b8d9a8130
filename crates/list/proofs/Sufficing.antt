-- A space that suffices for the list program's text: it is written, and its length answered.
use mathlib.Core.Path.{◌≡◌, ◌∙◌}
use mathlib.Core.List.{List}
use Prim.Native.Nat.{ℕ, ◌≤◌}
use lib.ListN.{length}
use Rattle.std.specs.Prelude.{Result, Ok}
use Rattle.ground.specs.declared.Refusal.{Refusal}
use Rattle.text.proofs.Fitting.{length-is}
use Rattle.list.specs.Text.{list_text, list_answer}

pub listed : (s : List ℕ) (used space : ℕ) {r : Result ℕ Refusal} → r ≡ list_answer s used space → length (list_text s used) ≤ space → r ≡ Ok (length (list_text s used))
unfolding list_answer
listed s used space e h = e ∙ length-is (list_text s used) space h

-- so the length that is answered is that of the text
pub length-listed : (s : List ℕ) (used space : ℕ) {r : Result ℕ Refusal} {n : ℕ} → r ≡ list_answer s used space → length (list_text s used) ≤ space → r ≡ Ok n
    → n ≡ length (list_text s used)
length-listed s used space e h f = let g = listed s used space e h in cc
