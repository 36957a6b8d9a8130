-- "A trade written into a book reads back as the same trade": what is asked of the trade, and what a read then finds.
use Rattle.std.specs.Prelude.{◌≡◌, false, List, ℕ, ◌<◌, length, Result, Ok, Some}
use Rattle.layout.specs.Bytes.{AreBytes}
use Rattle.record.specs.Bytes.{fields_of, record_bytes}
use Rattle.trade.specs.declared.Trade.{Trade}
use Rattle.trade.specs.Read.{trade_of}
use Rattle.trade.specs.Write.{fields_of_trade}
use Rattle.flows.specs.Verdict.{record_verdict}
use Rattle.book.specs.Parts.{curves_of, trade_count}
use Rattle.acceptance.specs.Verdict.{book_verdict}
use Rattle.ground.specs.declared.Refusal.{Refusal}
use Rattle.edit.specs.Refusals.{block_of, breaks_book_space, append_verdict}
use Rattle.edit.specs.Edits.{used_appended, record_found, found, appended}

-- a trade as the 56 bytes of a record, and a record's bytes as a trade
abbrev pub record_of_trade : Trade → List ℕ
record_of_trade t = record_bytes (fields_of_trade t)

abbrev pub trade_of_record : List ℕ → Trade
trade_of_record r = trade_of (fields_of r)

pub record Writable (s : List ℕ) (used day : ℕ) (t : Trade) : Type 0 where
  pub bytes : AreBytes s
  -- the book is accepted on the day
  pub accepted : book_verdict s used (Some day) ≡ Ok tt
  -- the trade's own numbers break none of the rules 8 to 12 at the book's curves
  pub unbroken : record_verdict (curves_of s) (fields_of_trade t) (block_of s (trade_count s)) ≡ Ok tt
  -- ground 15 does not apply
  pub room : breaks_book_space (trade_count s) used (length s) ≡ false

-- the lent bytes after the append of a trade's record, and what a read at a position then finds
abbrev pub book_with : List ℕ → ℕ → ℕ → Trade → List ℕ
book_with s used day t = appended s used day (record_of_trade t)

abbrev pub found_with : List ℕ → ℕ → ℕ → Trade → ℕ → Result (List ℕ) Refusal
found_with s used day t position = found (book_with s used day t) (used_appended s used day (record_of_trade t)) position

-- "reads back as the same trade"
pub record ReadsBack (s : List ℕ) (used day : ℕ) (t : Trade) : Type 0 where
  -- the append takes the record
  pub taken : append_verdict s used day (record_of_trade t) ≡ Ok tt
  -- at the new position a read finds it
  pub written : found_with s used day t (trade_count s) ≡ Ok (record_of_trade t)
  -- and it is the trade
  pub same : trade_of_record (record_found (found_with s used day t (trade_count s))) ≡ t
  -- what was there before reads as before
  pub earlier : (i : ℕ) → i < trade_count s → found_with s used day t i ≡ found s used i
