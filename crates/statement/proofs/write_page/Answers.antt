-- `statement::write_page` meets its contract: the lines, one behind the other.
use mathlib.Core.Path.{◌≡◌, sym, ap, subst}
use mathlib.Core.List.{List}
use Prim.Native.Nat.{ℕ, ◌+◌, ◌≤◌}
use native.Mathlib.Omega.{arith}
use lib.ListN.{length, take}
use Rattle.margin.specs.declared.Margin.{Margin}
use Rattle.book.specs.Parts.{curve_count, records}
use Rattle.book.proofs.Accepted.{Sound, sound}
use Rattle.text.specs.Text.{lines_of}
use Rattle.text.proofs.Writing.{and_then, written_as}
use Rattle.page.specs.Line.{title_line, record_line}
use Rattle.page.proofs.LineLengths.{length-title-line}
use Rattle.page.specs.Page.{curve_line, currency_part_of, page}
use Rattle.page.specs.Limits.{PageLimits}
use Rattle.page.proofs.Lengths.{length-parts-of}
use Rattle.statement.specs.Entry.{page_of}
use Rattle.statement.proofs.Limits.{page-limits}
use Rattle.statement.proofs.write_page.Goals as goal
use Rattle.statement.proofs.write_page.Goals.{Start}

module _ (s : Start) where
  abbrev book : List ℕ
  book = s.args.book.now

  abbrev m : Margin
  m = s.args.m

  here : Sound book s.requires.starts_with_book.0.used
  here = sound book s.requires.starts_with_book.0.used s.requires.starts_with_book.0.accepted

  limits : PageLimits (curve_count book) m (records book)
  limits = subst (λ (x : Margin). PageLimits (curve_count book) x (records book)) (sym s.requires.starts_with_book.1) (page-limits book _ here)

  whole : page (curve_count book) m (records book) ≡ page_of book
  unfolding page_of
  whole = ap (λ (x : Margin). page (curve_count book) x (records book)) s.requires.starts_with_book.1

  -- the parts have room
  room : length (title_line m.account) + length (lines_of record_line 0 (records book)) + length (lines_of curve_line 1 (take (curve_count book) m.curves)) + length (lines_of (currency_part_of (take (curve_count book) m.curves)) 1 m.currencies) ≤ length s.args.out.now
  room = omega (arith, ap length whole, length-parts-of (curve_count book) m (records book), s.requires.room)

pub curve_count-count-requires : goal.curve_count-count-requires
curve_count-count-requires c = let b = here (goal.at.curve_count-count-requires c).Start in omega (arith, b.blocks, b.lent)

pub put_title-first-requires : goal.put_title-first-requires
put_title-first-requires c =
    omega (arith, room (goal.at.put_title-first-requires c).Start, length-title-line (m (goal.at.put_title-first-requires c).Start).account)

pub put_trades-second-requires : goal.put_trades-second-requires
put_trades-second-requires c =
    record { starts_with_book = c.requires.starts_with_book.0; room = omega (arith, room (goal.at.put_trades-second-requires c).Start, c.put_title-first.ensures.place) }

pub put_curves-third-requires : goal.put_curves-third-requires
put_curves-third-requires c =
    let e = c.curve_count-count.ensures.value in
    rw e ((limits (goal.at.put_curves-third-requires c).Start).curves, omega (arith, room (goal.at.put_curves-third-requires c).Start, c.put_title-first.ensures.place, c.put_trades-second.ensures.place))

pub put_currencies-requires : goal.put_currencies-requires
put_currencies-requires c =
    let e = c.curve_count-count.ensures.value in
    let third = rw e at c.put_curves-third.ensures in
    rw e record { count_bound = ((limits (goal.at.put_currencies-requires c).Start).curves.most, (limits (goal.at.put_currencies-requires c).Start).currencies); currencies_in_bounds = omega (arith, room (goal.at.put_currencies-requires c).Start, c.put_title-first.ensures.place, c.put_trades-second.ensures.place, third.place) }

pub returns : goal.returns
unfolding page
returns c =
    let e = c.curve_count-count.ensures.value in
    let first = and_then (and_then c.put_title-first.ensures c.put_trades-second.ensures) (rw e at c.put_curves-third.ensures) in
    let parts = and_then first (rw e at c.put_currencies.ensures) in
    let p = written_as (page_of (book (goal.at.returns c).Start)) parts (whole (goal.at.returns c).Start) c.requires.room in
    record { value = p.0; out_after = p.1 }
