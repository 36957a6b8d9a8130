-- `book::parts::curves_of` meets its contract.
use mathlib.Core.Path.{◌≡◌, refl, sym, ap, ◌∙◌}
use mathlib.Core.List.{List, []}
use Prim.Native.Nat.{ℕ}
use native.Mathlib.Omega.{arith}
use borrow.Author.Rules.{rules}
use borrow.Author.Count.{below_more}
use lib.ListN.{get_or, length-set}
use lib.Seq.{get_or-set_same, get_or-set_other, ext_get_or}
use Rattle.laws.specs.Walk.{table}
use Rattle.laws.proofs.Walk.{length-table, get_d-table}
use Rattle.curve_block.specs.Parts.{currency_of}
use Rattle.book.specs.Parts.{curve_blocks, curves_in}
use Rattle.book.proofs.Places.{length-curve_blocks}
use Rattle.book.proofs.parts.curves_of.Goals as goal

-- what stands at k - 1 of a book's currencies
abbrev currency : List ℕ → ℕ → ℕ
currency s k = currency_of (get_or (curve_blocks s) k [])

pub loop-k-preserved : goal.loop-k-preserved
loop-k-preserved c =
    let k = c.loop-k.k in
    let held = c.loop-k.currency in
    record {
      long = simp length-set c.loop-k.invariant.long;
      read =
          below_more _ k
          (λ j l. get_or-set_other held k j c.currency_at.result 0 (λ e. omega arith) ∙ c.loop-k.invariant.read j l)
          (get_or-set_same held k c.currency_at.result 0 (omega arith) ∙ c.currency_at.ensures);
    }

pub returns : goal.returns
unfolding curves_in
returns c =
    let s = c.args.book.now in
    let inv = c.loop-k.invariant in
    rw (
      c.curve_count.ensures.value,
      length-curve_blocks s,
      ext_get_or 0 c.loop-k.currency (table (currency s) 0 8) (inv.long ∙ sym (length-table (currency s) 0 8))
          (λ j l. inv.read j (omega arith) ∙ sym (get_d-table (currency s) 0 8 j 0 (omega arith) ∙ ap (currency s) (omega arith))),
    )
