-- `list::book_text::list_text` meets its contract: the text stands in a space of its own first.
use mathlib.Core.Path.{◌≡◌, sym, ◌∙◌}
use mathlib.Core.List.{List}
use Prim.Native.Nat.{ℕ, ◌≤◌}
use native.Mathlib.Omega.{arith}
use borrow.Author.Rules.{rules}
use lib.ListN.{length, drop, replicate}
use lib.Seq.{length-take-le}
use Rattle.std.specs.Prelude.{Ok}
use Rattle.ground.proofs.Verdicts.{passed-on}
use Rattle.text.proofs.Fitting.{space-judged, text-too-long, text-fits, text_in-front, text-copied}
use Rattle.list.specs.Text.{list_text, list_verdict, list_answer, list_bytes}
use Rattle.list.proofs.book_text.list_text.Goals as goal
use Rattle.list.proofs.book_text.list_text.Goals.{In_ok-refuse_if}

pub returns-in_err-refuse_if : goal.returns-in_err-refuse_if
unfolding list_answer list_bytes
returns-in_err-refuse_if c =
    let n = c.put_listing-n.ensures in
    let whole = list_text c.args.book.now c.args.used in
    let judged = space-judged whole c.args.out.now c.refuse_if.ensures c.breaks_space.ensures n.value in
    let p = text-too-long whole c.args.out.now (judged ∙ c.in_err-refuse_if.was) (passed-on c.from_residual.result c.from_residual.ensures.1) in
    record { value = p.answer; out_after = p.bytes; bound = omega (arith, n.value, n.upper_bound) }

-- the text fits the space lent for it
module _ (c : In_ok-refuse_if) where
  accepted : list_verdict c.args.book.now c.args.used (length c.args.out.now) ≡ Ok tt
  accepted =
      space-judged (list_text c.args.book.now c.args.used) c.args.out.now c.refuse_if.ensures c.breaks_space.ensures c.put_listing-n.ensures.value
      ∙ c.in_ok-refuse_if.was

  room : c.put_listing-n.result ≤ length c.args.out.now
  room = omega (arith, c.put_listing-n.ensures.value, text-fits (list_text c.args.book.now c.args.used) c.args.out.now accepted)

pub slice_bounds-copy_from_slice-end : goal.slice_bounds-copy_from_slice-end
slice_bounds-copy_from_slice-end c = room c

pub slice_bounds-copy_from_slice-end-2 : goal.slice_bounds-copy_from_slice-end-2
slice_bounds-copy_from_slice-end-2 c = sym (length-take-le _ _ (room (goal.at.slice_bounds-copy_from_slice-end-2 c).In_ok-refuse_if))

pub copy_from_slice-requires : goal.copy_from_slice-requires
copy_from_slice-requires c =
    length-take-le _ _ (room (goal.at.copy_from_slice-requires c).In_ok-refuse_if) ∙ sym (length-take-le _ _ (search rules))

pub returns : goal.returns
unfolding list_answer list_bytes
returns c =
    let whole = list_text c.args.book.now c.args.used in
    let n = c.put_listing-n.ensures in
    let rest : List ℕ = drop c.put_listing-n.result (replicate 1481 0) in
    let p = text_in-front whole c.args.out.now (accepted (goal.at.returns c).In_ok-refuse_if) n.value (text-copied whole c.args.out.now rest n.value n.out_after c.copy_from_slice.ensures.after) in
    record { value = p.answer; out_after = p.bytes; bound = omega (arith, n.value, n.upper_bound) }
