-- "A trade written into a book reads back as the same trade, and an accepted record rewritten gives the same bytes."
use mathlib.Core.Path.{◌≡◌, ap, ◌∙◌}
use mathlib.Core.List.{List}
use Prim.Native.Nat.{ℕ, ◌+◌, ◌*◌, ◌/◌, ◌%◌, ◌<◌}
use native.Mathlib.Omega.{arith}
use Rattle.std.specs.Prelude.{Result, Ok, Some}
use Rattle.layout.specs.Bytes.{AreBytes}
use Rattle.layout.proofs.Bytes.{bytes-part}
use Rattle.record.proofs.RoundTrip.{fields-bytes-fields, length-record_bytes}
use Rattle.record.proofs.Widths.{rules-narrow}
use Rattle.trade.specs.declared.Trade.{Trade}
use Rattle.trade.specs.Write.{fields_of_trade}
use Rattle.trade.proofs.RoundTrip.{trade-bytes-trade}
use Rattle.flows.proofs.Bounded.{accepted}
use Rattle.flows.proofs.Rewritten.{accepted-rewritten}
use Rattle.book.specs.Parts.{block_at, curve_count, curves_of, record_place, trade_count, record_at}
use Rattle.book.specs.Verdict.{bytes_verdict, blocks_verdict}
use Rattle.book.proofs.Places.{curves-count}
use Rattle.book.proofs.Accepted.{sound, accepted-record, length-record_at}
use Rattle.acceptance.proofs.Laws.{book-accepted}
use Rattle.ground.specs.declared.Refusal.{Refusal}
use Rattle.edit.specs.ReadBack.{record_of_trade, trade_of_record, Writable, ReadsBack}
use Rattle.edit.specs.Refusals.{block_of}
use Rattle.edit.specs.Edits.{record_found}
use Rattle.edit.proofs.Given.{admits}
use Rattle.edit.proofs.Theorems.{append-read-last, append-read-earlier}

pub trade-reads-back : (s : List ℕ) (used day : ℕ) (t : Trade) → Writable s used day t → ReadsBack s used day t
trade-reads-back s used day t w =
    let f = fields_of_trade t in
    let r = record_of_trade t in
    let rules = accepted (curves_of s) f (block_of s (trade_count s)) w.unbroken in
    let blocks = (book-accepted s used (Some day) w.accepted).blocks in
    let few : (curves_of s).count < 256 = omega (arith, curves-count s, (sound s used blocks).most) in
    let narrow = rules-narrow (curves_of s) f few rules.form rules.days rules.amounts in
    let judged : bytes_verdict (curves_of s) r (block_of s (trade_count s)) ≡ Ok tt = rw (fields-bytes-fields f narrow) w.unbroken in
    let taken = admits s used r day w.accepted (record { accepted = blocks; judged = judged; roomy = w.room }) in
    let written = append-read-last s used w.bytes r (length-record_bytes f) day taken in
    record {
      taken = taken;
      written = written;
      same = ap (λ (x : Result (List ℕ) Refusal). trade_of_record (record_found x)) written ∙ trade-bytes-trade t narrow;
      earlier = append-read-earlier s used w.bytes r (length-record_bytes f) day taken;
    }

-- ---- an accepted record rewritten

pub bytes-record_at : (s : List ℕ) (i : ℕ) → AreBytes s → AreBytes (record_at s i)
unfolding record_at
bytes-record_at s i bytes =
    let k = 1 + curve_count s + i / 9 in
    bytes-part (block_at s k) (record_place (i % 9)) 56 (bytes-part s (k * 512) 512 bytes)

-- "gives the same bytes"
pub record-rewritten : (s : List ℕ) (used : ℕ) → AreBytes s → blocks_verdict s used ≡ Ok tt → (i : ℕ) → i < trade_count s
    → record_of_trade (trade_of_record (record_at s i)) ≡ record_at s i
record-rewritten s used bytes ok i l =
    let b = sound s used ok in
    accepted-rewritten (curves_of s) (record_at s i) (1 + curve_count s + i / 9) (length-record_at s used b i l) (bytes-record_at s i bytes) (accepted-record s used b i l)
