-- `list::book_text::put_listing` meets its contract.
use mathlib.Core.Path.{sym, ◌∙◌}
use native.Mathlib.Omega.{arith}
use borrow.Author.Rules.{rules}
use Rattle.book.proofs.Accepted.{sound}
use Rattle.acceptance.proofs.Laws.{book-accepted, own-day}
use Rattle.list.specs.Text.{list_text}
use Rattle.list.proofs.book_text.put_listing.Goals as goal

pub margin_of_book-m-requires : goal.margin_of_book-m-requires
margin_of_book-m-requires c = record { used = _; accepted = (book-accepted _ _ _ (sym c.check.ensures ∙ c.in-Ok.is)).blocks }

-- an accepted book has its header, and at most eight curves
pub curve_count-requires : goal.curve_count-requires
curve_count-requires c =
    let b = sound _ _ (book-accepted _ _ _ (sym c.check.ensures ∙ c.in-Ok.is)).blocks in
    omega (arith, b.blocks, b.lent)

pub write_listing-requires : goal.write_listing-requires
write_listing-requires c =
    let b = sound _ _ (book-accepted _ _ _ (sym c.check.ensures ∙ c.in-Ok.is)).blocks in
    (omega (arith, b.most, c.curve_count.ensures.value), search rules)

pub returns-in-Ok : goal.returns-in-Ok
unfolding list_text
returns-in-Ok c =
    let e = own-day _ _ ∙ sym c.check.ensures ∙ c.in-Ok.is in
    rw (e, ← c.curve_count.ensures.value, ← c.margin_of_book-m.ensures) c.write_listing.ensures

pub returns-in-Err : goal.returns-in-Err
unfolding list_text
returns-in-Err c =
    let e = own-day _ _ ∙ sym c.check.ensures ∙ c.in-Err.is in
    let w = c.write_refused.ensures in
    rw (e, ← c.from.ensures) (record { value = w.value; out_after = w.out_after; upper_bound = omega (arith, w.upper_bound) })
