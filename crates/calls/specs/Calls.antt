-- Lists of calls on one book: what a caller lends, the calls that may write it, and what he then has. What a sentence of document 02 promises "after
-- every list of those calls" is said of `after_all`.
use Rattle.std.specs.Prelude.{ℕ, ◌≡◌, List, [], ◌∷◌, length, Ok, Some}
use Rattle.layout.specs.Bytes.{AreBytes}
use Rattle.book.specs.Parts.{header_of}
use Rattle.acceptance.specs.Verdict.{book_verdict}
use Rattle.edit.specs.Edits.{appended, used_appended, struck, used_struck}
use Rattle.bootstrap.specs.declared.Quote.{Quote}
use Rattle.bootstrap.specs.Bootstrap.{bootstrapped}

-- "The caller lends bytes and a used length."
pub record State : Type 0 where
  pub bytes : List ℕ
  pub used : ℕ

-- a call that may write the book: the current day, then what else it is given
pub data Call : Type 0 where
  Append : ℕ → List ℕ → Call
  Strike : ℕ → ℕ → Call
  Bootstrap : ℕ → Quote → Call

-- "A record passes as 56 bytes by value"
abbrev pub Passable : Call → Type 0
Passable (Append day r) = (length r ≡ 56) × AreBytes r
Passable (Strike day position) = Unit {0}
Passable (Bootstrap day q) = Unit {0}

-- what the caller has after a call, refused or not
unfoldable pub after : State → Call → State
after s (Append day r) = record { bytes = appended s.bytes s.used day r; used = used_appended s.bytes s.used day r }
after s (Strike day position) = record { bytes = struck s.bytes s.used day position; used = used_struck s.bytes s.used day position }
after s (Bootstrap day q) = record { bytes = bootstrapped s.bytes s.used day q; used = s.used }

-- after a list of calls, the first first
unfoldable pub after_all : State → List Call → State
after_all s [] = s
after_all s (c ∷ cs) = after_all (after s c) cs

-- what calls on a book that is accepted on a day leave: bytes of an accepted book, its header, and so its day, what it was
pub record StillAccepted (day : ℕ) (s t : State) : Type 0 where
  pub bytes : AreBytes t.bytes
  pub accepted : book_verdict t.bytes t.used (Some day) ≡ Ok tt
  pub header : header_of t.bytes ≡ header_of s.bytes
