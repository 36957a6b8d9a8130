-- `book::blocks_verdict` meets its contract.
use mathlib.Core.Path.{◌≡◌, sym, ◌∙◌}
use mathlib.Core.Bool.{false}
use Prim.Native.Nat.{◌/◌}
use native.Mathlib.Omega.{arith}
use lib.ListN.{length}
use Rattle.ground.specs.declared.Ground.TheVariants.{Length}
use Rattle.ground.proofs.Verdicts.{not-broken, unless-refused, passed-on}
use Rattle.book.specs.Rules.{breaks_length}
use Rattle.book.specs.Parts.{block_at}
use Rattle.book.specs.Verdict.{header_verdict, blocks_verdict}
use Rattle.book.proofs.Sound.{Long, long, Headed}
use Rattle.book.proofs.Places.{head-curves}
use Rattle.book.proofs.Verdicts.{header-accepted, header-stops, header-passes, verdict-blocks}
use Rattle.book.proofs.blocks_verdict.Goals as goal
use Rattle.book.proofs.blocks_verdict.Goals.{After-header_verdict, In_ok-refuse_if, In_ok-header_verdict}

pub returns-in_err-refuse_if : goal.returns-in_err-refuse_if
unfolding blocks_verdict
returns-in_err-refuse_if c =
    let refused = rw c.breaks_length.ensures at (sym c.refuse_if.ensures ∙ c.in_err-refuse_if.was) in
    passed-on c.from_residual.result c.from_residual.ensures.1 ∙ sym (unless-refused _ Length 0 tt _ refused)

-- past the first test
module _ (c : In_ok-refuse_if) where
  kept : breaks_length c.args.used (length c.args.book.now) ≡ false
  kept = not-broken Length 0 c.breaks_length.ensures c.refuse_if.ensures c.in_ok-refuse_if.was

  fits : Long c.args.used (length c.args.book.now)
  fits = long _ _ kept

pub block_at-requires : goal.block_at-requires
block_at-requires c = let l = fits c in omega arith

-- the header's verdict, in the contract's terms
module _ (c : After-header_verdict) where
  judged : header_verdict (block_at c.args.book.now 0) (c.args.used / 512) ≡ c.header_verdict.result
  judged = sym (rw c.block_at.ensures.result_value at c.header_verdict.ensures)

pub returns-in_err-header_verdict : goal.returns-in_err-header_verdict
returns-in_err-header_verdict c =
    let s = (goal.at.returns-in_err-header_verdict c).In_ok-refuse_if in
    let l = fits s in
    let e = judged (goal.at.returns-in_err-header_verdict c).After-header_verdict ∙ c.in_err-header_verdict.was in
    passed-on c.from_residual-in_err-header_verdict.result c.from_residual-in_err-header_verdict.ensures.1
    ∙ sym (verdict-blocks _ _ (kept s) ∙ header-stops _ _ (omega arith) e)

-- past the second
module _ (c : In_ok-header_verdict) where
  heads : Headed (block_at c.args.book.now 0) (c.args.used / 512)
  heads =
      (header-accepted _ _ (sym (rw c.block_at.ensures.result_value at c.header_verdict.ensures) ∙ c.in_ok-header_verdict.was)).counts

pub curves_of-requires : goal.curves_of-requires
curves_of-requires c =
    let l = fits (goal.at.curves_of-requires c).In_ok-refuse_if in
    let h = heads c in
    omega (arith, head-curves c.args.book.now)

pub block_by_block-requires : goal.block_by_block-requires
block_by_block-requires c =
    let l = fits (goal.at.block_by_block-requires c).In_ok-refuse_if in
    record { n_bound = (omega arith, omega arith); curves_value = c.curves_of.ensures }

pub returns : goal.returns
returns c =
    let s = (goal.at.returns c).In_ok-refuse_if in
    let l = fits s in
    c.block_by_block.ensures
    ∙ sym (verdict-blocks _ _ (kept s) ∙ header-passes _ _ (omega arith) (judged (goal.at.returns c).After-header_verdict ∙ c.in_ok-header_verdict.was))
