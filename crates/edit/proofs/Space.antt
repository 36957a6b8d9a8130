-- Ground 15 is given only where a new block is needed and none is to be had: the book's own grounds are 1 to 12 and 19, a record's 8 to 12.
use mathlib.Core.Path.{◌≡◌, refl}
use mathlib.Core.Logic.{◌⊎◌}
use mathlib.Core.Bool.{Bool, true, false, not, ◌&&◌, cond}
use mathlib.Core.List.{List, [], ◌∷◌}
use Prim.Native.Nat.{ℕ, zero, suc, ◌+◌, ◌/◌, ◌%◌, ◌<◌}
use native.Mathlib.Omega.{arith}
use lib.Dec.{eqb, leb}
use borrow.Author.Tests.{eqb-false, not-true}
use lib.ListN.{length}
use Rattle.std.specs.Prelude.{Err, Ok, Some}
use Rattle.laws.specs.Walk.{over}
use Rattle.laws.proofs.Bools.{both}
use Rattle.ground.specs.declared.Ground.{Ground}
use Rattle.ground.specs.declared.Ground.TheVariants.{Length, BookSpace}
use Rattle.ground.specs.declared.Refusal.{Refusal}
use Rattle.ground.specs.Verdicts.{Verdict, refused, or_else, unless, Rule, first_broken}
use Rattle.ground.specs.Number.{number_of}
use Rattle.curve_block.specs.Verdict.{curve_rules, curve_verdict}
use Rattle.record.specs.declared.Curves.{Curves}
use Rattle.record.specs.declared.Fields.{Fields}
use Rattle.record.specs.Bytes.{fields_of}
use Rattle.flows.specs.Verdict.{record_rules, record_verdict}
use Rattle.book.specs.Parts.{block_at, curve_count, curves_of, record_count, record_in, trade_count, parts_of}
use Rattle.book.specs.Rules.{breaks_length}
use Rattle.book.specs.Verdict.{first_of, bytes_verdict, header_rules, header_verdict, records_verdict, trades_rules, trades_verdict, block_verdict, blocks_verdict}
use Rattle.acceptance.specs.Verdict.{Today, book_rules, book_verdict}
use Rattle.edit.specs.Refusals.{block_of, breaks_book_space, new_record_verdict, append_verdict}
use Rattle.edit.specs.Edits.{appended_book, append_answer}
use Rattle.edit.proofs.Given.{no_room}

-- a verdict by another ground

abbrev number_in : Verdict → ℕ
number_in (Ok tt) = 0
number_in (Err r) = number_of r.by

pub record Tested (v : Verdict) : Type 0 where
  pub other : number_in v ≡ 15 → ⊥

pass : Tested (Ok tt)
pass = record { other = λ e. omega arith }

unless-tested : (broken : Bool) (g : Ground) (k : ℕ) (next : Verdict) → (number_of g ≡ 15 → ⊥) → Tested next → Tested (unless broken g k next)
unless-tested true g k next h l = record { other = h }
unless-tested false g k next h l = l

or_else-tested : (v next : Verdict) → Tested v → Tested next → Tested (or_else v next)
or_else-tested (Ok tt) next h l = l
or_else-tested (Err r) next h l = h

cond-tested : (b : Bool) (v w : Verdict) → Tested v → Tested w → Tested (cond b v w)
cond-tested true v w h l = h
cond-tested false v w h l = l

first-tested : (f : ℕ → Verdict) → ((k : ℕ) → Tested (f k)) → (i n : ℕ) → Tested (first_of f i n)
unfolding first_of over
first-tested f h i zero = pass
first-tested f h i (suc n) = or_else-tested (f i) _ (h i) (first-tested f h (suc i) n)

-- no ground of the rules is 15
others : List Rule → Bool
others [] = true
others (r ∷ rules) = not (eqb (number_of r.1) 15) && others rules

rules-tested : (k : ℕ) (rules : List Rule) → others rules ≡ true → Tested (first_broken k rules)
unfolding others
rules-tested k [] h = pass
rules-tested k (r ∷ rules) h =
    let p = both (not (eqb (number_of r.1) 15)) (others rules) h in
    unless-tested r.0 r.1 k (first_broken k rules) (eqb-false (number_of r.1) 15 (not-true _ p.0)) (rules-tested k rules p.1)

record-tested : (curves : Curves) (f : Fields) (k : ℕ) → Tested (record_verdict curves f k)
unfolding record_verdict others
record-tested curves f k = rules-tested k (record_rules curves f) refl

header-tested : (b : List ℕ) (n : ℕ) → Tested (header_verdict b n)
unfolding header_verdict others
header-tested b n = rules-tested 0 (header_rules b n) refl

curve-tested : (b : List ℕ) (k : ℕ) → Tested (curve_verdict b k)
unfolding curve_verdict others
curve-tested b k = rules-tested k (curve_rules b k) refl

trades-tested : (curves : Curves) (b : List ℕ) (k : ℕ) (last : Bool) → Tested (trades_verdict curves b k last)
unfolding trades_verdict records_verdict others
trades-tested curves b k last =
    or_else-tested (first_broken k (trades_rules b k last)) _ (rules-tested k (trades_rules b k last) refl)
    (first-tested (λ (i : ℕ). bytes_verdict curves (record_in b i) k) (λ i. record-tested curves (fields_of (record_in b i)) k) 0 (record_count b))

at_block : (s : List ℕ) (n k : ℕ) → Tested (block_verdict s n k)
unfolding block_verdict
at_block s n k =
    cond-tested (eqb k 0) (header_verdict (block_at s 0) n) _ (header-tested (block_at s 0) n)
    (cond-tested (leb k (curve_count s)) (curve_verdict (block_at s k) k) _ (curve-tested (block_at s k) k)
    (trades-tested (curves_of s) (block_at s k) k (eqb (k + 1) n)))

verdict-tested : (s : List ℕ) (used : ℕ) → Tested (blocks_verdict s used)
unfolding blocks_verdict
verdict-tested s used = unless-tested (breaks_length used (length s)) Length 0 _ (λ e. omega arith) (first-tested (block_verdict s (used / 512)) block-tested 0 (used / 512))
  where
    block-tested : (k : ℕ) → Tested (block_verdict s (used / 512) k)
    block-tested k = at_block s (used / 512) k

-- the whole-book check never answers 15
book-tested : (s : List ℕ) (used : ℕ) (today : Today) → Tested (book_verdict s used today)
unfolding book_verdict others
book-tested s used today = or_else-tested (blocks_verdict s used) _ (verdict-tested s used) (rules-tested 0 (book_rules (parts_of s) today) refl)

-- ---- 15

is-space : (r : Refusal) (k : ℕ) → ◌≡◌ {A = Verdict} (Err r) (refused BookSpace k) → number_of r.by ≡ 15
is-space r k e = let z : r ≡ record { by = BookSpace; block = k } = cc in rw z

by-space : (v w : Verdict) (b : Bool) (k : ℕ) → Tested v → Tested w → or_else v (or_else w (unless b BookSpace 0 (Ok (tt {0})))) ≡ refused BookSpace k → b ≡ true
by-space (Ok tt) (Ok x) true k h l e = refl
by-space (Ok tt) (Ok x) false k h l e = cc
by-space (Ok tt) (Err r) b k h l e = absurd (l.other (is-space r k e))
by-space (Err r) w b k h l e = absurd (h.other (is-space r k e))

answered : (v : Verdict) (n k : ℕ) → or_else v (Ok n) ≡ refused BookSpace k → v ≡ refused BookSpace k
answered (Ok tt) n k e = cc
answered (Err r) n k e = cc

-- an append is refused by 15 only where a new block is needed, and the book has 128 or the lent bytes end before that block does
pub append-space : (s : List ℕ) (used day : ℕ) (r : List ℕ) (k : ℕ) → append_answer s used day r ≡ refused BookSpace k
    → (trade_count s % 9 ≡ 0) × ((used / 512 ≡ 128) ⊎ (length s < used + 512))
unfolding append_answer append_verdict new_record_verdict
append-space s used day r k e =
    no_room (trade_count s) used (length s)
    (by-space (book_verdict s used (Some day)) (bytes_verdict (curves_of s) r (block_of s (trade_count s))) (breaks_book_space (trade_count s) used (length s)) k
    (book-tested s used (Some day)) (record-tested (curves_of s) (fields_of r) (block_of s (trade_count s)))
    (answered (append_verdict s used day r) (length (appended_book s r)) k e))
