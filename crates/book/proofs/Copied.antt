-- A copy of an accepted book, whatever stands behind it: it is accepted, and its parts are the book's.
use mathlib.Core.Path.{◌≡◌, sym, ap, ◌∙◌}
use mathlib.Core.List.{List, ◌++◌}
use Prim.Native.Nat.{ℕ}
use lib.ListN.{length, take, drop, take-append-drop}
use Rattle.std.specs.Prelude.{Ok}
use Rattle.layout.specs.Bytes.{AreBytes}
use Rattle.book.specs.Parts.{Parts, header_of, curve_count, curve_blocks, trade_count, records, parts_of}
use Rattle.book.specs.Verdict.{blocks_verdict}
use Rattle.book.specs.Encode.{book_of}
use Rattle.book.proofs.Places.{length-curve_blocks, length-records}
use Rattle.book.proofs.Accepted.{sound}
use Rattle.book.proofs.Encoded.{parts-encoded, encoded-accepted}
use Rattle.book.proofs.Canonical.{sound-encodable, sound-acceptable, accepted-encoded, length-accepted}

-- t has the parts of s
abbrev pub SameBook : List ℕ → List ℕ → Type 0
SameBook s t = parts_of t ≡ parts_of s

module _ (s t : List ℕ) where
  pub same-curve-count : SameBook s t → curve_count t ≡ curve_count s
  same-curve-count same = sym (length-curve_blocks t) ∙ ap (λ (p : Parts). length p.curves) same ∙ length-curve_blocks s

  pub same-trade-count : SameBook s t → trade_count t ≡ trade_count s
  same-trade-count same = sym (length-records t) ∙ ap (λ (p : Parts). length p.trades) same ∙ length-records s

  module _ (used : ℕ) (bytes : AreBytes s) (ok : blocks_verdict s used ≡ Ok tt) (same : take used t ≡ take used s) where
    abbrev book : List ℕ
    book = book_of (parts_of s)

    abbrev rest : List ℕ
    rest = drop used t

    lent : t ≡ book ++ rest
    lent = sym (take-append-drop used t) ∙ ap (λ (x : List ℕ). x ++ rest) (same ∙ accepted-encoded s used bytes ok)

    pub same-book : SameBook s t
    same-book = ap parts_of lent ∙ parts-encoded (header_of s) (curve_blocks s) (records s) (sound-encodable s used bytes (sound s used ok)) rest

    pub copy-accepted : blocks_verdict t used ≡ Ok tt
    copy-accepted =
        let b = sound s used ok in
        ap (λ (x : List ℕ). blocks_verdict x used) lent
        ∙ ap (blocks_verdict (book ++ rest)) (sym (length-accepted s used bytes ok))
        ∙ encoded-accepted (header_of s) (curve_blocks s) (records s) (sound-encodable s used bytes b) rest (sound-acceptable s used bytes b)
