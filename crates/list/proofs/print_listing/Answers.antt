-- `list::print_listing` meets its contract: the text's space suffices, so nothing is refused, and what is written is the text.
use mathlib.Core.Path.{refl, sym}
use Prim.Native.Nat.{◌<◌}
use lib.Seq.{length-take-le}
use borrow.Author.Rules.{rules}
use Rattle.list.proofs.Sufficing.{listed, length-listed}
use Rattle.list.proofs.Printed.{text-in-front, printed-of}
use Rattle.list.proofs.print_listing.Goals as goal

pub unwrap-n-requires : goal.unwrap-n-requires
unwrap-n-requires g c = rw (listed _ _ _ c.list_text.ensures.value (search rules)) refl

pub slice_bounds-text-end : goal.slice_bounds-text-end
slice_bounds-text-end g c =
    let n = length-listed _ _ _ c.list_text.ensures.value (search rules) c.unwrap-n.ensures in
    search rules

pub slice_bounds-write_all-end : goal.slice_bounds-write_all-end
slice_bounds-write_all-end g c =
    let n = length-listed _ _ _ c.list_text.ensures.value (search rules) c.unwrap-n.ensures in
    sym (length-take-le _ _ (search rules))

pub returns : goal.returns
returns g c =
    let n = length-listed _ _ _ c.list_text.ensures.value (search rules) c.unwrap-n.ensures in
    let text = text-in-front _ _ _ c.list_text.ensures.out_after (search rules) n in
    let ended = λ (b : c.in_ok-used.used < 65537). c.in_ok-used.ensures.end (search rules) in
    printed-of _ _ _ _ _ _ _ _ c.in_ok-used.ensures.bytes ended (search rules) (sym (length-take-le _ _ (search rules))) c.write_all.ensures.bytes text
