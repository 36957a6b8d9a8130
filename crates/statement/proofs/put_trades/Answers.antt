-- `statement::put_trades` meets its contract: what is written and what is left to write are together all.
use mathlib.Core.Path.{◌≡◌, ap, ◌∙◌}
use mathlib.Core.List.{List, [], ◌++◌}
use Prim.Native.Nat.{ℕ, ◌+◌, ◌<◌}
use native.Mathlib.Omega.{arith}
use lib.ListN.{length, drop}
use Rattle.record.specs.Bytes.{fields_of}
use Rattle.book.specs.Parts.{trade_count, record_at, records}
use Rattle.book.proofs.Accepted.{Sound, sound, place-held, length-record_at}
use Rattle.book.proofs.Places.{length-records, record_of}
use Rattle.text.specs.Text.{lines_of}
use Rattle.text.proofs.Lines.{lines_next, lines_none}
use Rattle.text.proofs.Writing.{text-all, text-room, text-next, text-none}
use Rattle.page.specs.Line.{record_line}
use Rattle.page.proofs.LineLengths.{length-trade-line}
use Rattle.statement.proofs.Limits.{record-limits}
use Rattle.statement.proofs.put_trades.Goals as goal
use Rattle.statement.proofs.put_trades.Goals.{After-fields_of, In-loop-i, Start}

-- at the entry: the book is sound
here : (s : Start) → Sound s.args.book.now s.requires.starts_with_book.used
here s = sound s.args.book.now s.requires.starts_with_book.used s.requires.starts_with_book.accepted

pub trade_count-i-end-requires : goal.trade_count-i-end-requires
trade_count-i-end-requires c = let b = here (goal.at.trade_count-i-end-requires c).Start in omega (arith, b.blocks, b.lent)

pub loop-i-init : goal.loop-i-init
loop-i-init c = text-all _ _ _

-- in the loop: the next trade's line is left
module _ (c : In-loop-i) where
  abbrev book : List ℕ
  book = c.args.book.now

  abbrev i : ℕ
  i = c.loop-i.i

  below : i < trade_count book
  below = omega (arith, c.trade_count-i-end.ensures)

  abbrev rest : List ℕ
  rest = lines_of record_line (i + 1) (drop (i + 1) (records book))

  next : lines_of record_line i (drop i (records book)) ≡ record_line i (record_at book i) ++ rest
  next =
      lines_next record_line (records book) i i [] (omega (arith, length-records book, below))
      ∙ ap (λ (r : List ℕ). record_line i r ++ rest) (record_of book i below)

pub record_at-r-requires : goal.record_at-r-requires
record_at-r-requires c =
    let b = here (goal.at.record_at-r-requires c).Start in
    omega (arith, (place-held (book c) _ b (i c) (below c)).0, b.blocks, b.lent)

pub fields_of-requires : goal.fields_of-requires
fields_of-requires c =
    ap length c.record_at-r.ensures ∙ length-record_at c.args.book.now _ (here (goal.at.fields_of-requires c).Start) c.loop-i.i (below (goal.at.fields_of-requires c).In-loop-i)

-- after the record is read: it is the one at the position
fields-is : (c : After-fields_of) → c.fields_of.result ≡ fields_of (record_at c.args.book.now c.loop-i.i)
fields-is c = c.fields_of.ensures ∙ ap fields_of c.record_at-r.ensures

pub put_trade-next-requires : goal.put_trade-next-requires
put_trade-next-requires c =
    let limits = record-limits c.args.book.now _ (here (goal.at.put_trade-next-requires c).Start) c.loop-i.i (below (goal.at.put_trade-next-requires c).In-loop-i) in
    let long = length-trade-line c.loop-i.i (fields_of (record_at c.args.book.now c.loop-i.i)) limits in
    let room = text-room (record_line c.loop-i.i (record_at c.args.book.now c.loop-i.i)) (rest (goal.at.put_trade-next-requires c).In-loop-i) (rw (next (goal.at.put_trade-next-requires c).In-loop-i) at c.loop-i.invariant) c.requires.room in
    (omega (arith, long, room), rw (fields-is (goal.at.put_trade-next-requires c).After-fields_of) limits)

pub loop-i-preserved : goal.loop-i-preserved
loop-i-preserved c =
    let line = rw (fields-is (goal.at.loop-i-preserved c).After-fields_of) at c.put_trade-next.ensures in
    text-next (rw (next (goal.at.loop-i-preserved c).In-loop-i) at c.loop-i.invariant) line

pub returns : goal.returns
returns c =
    let k = c.loop-i.i in
    let e : k ≡ length (records c.args.book.now) = omega (arith, length-records c.args.book.now, c.trade_count-i-end.ensures) in
    text-none (rw (lines_none record_line (records c.args.book.now) k k e) at c.loop-i.invariant)

pub shape_of-out : goal.shape_of-out
shape_of-out c = c.loop-i.invariant.lent
