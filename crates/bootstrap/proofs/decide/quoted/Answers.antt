-- `bootstrap::decide::quoted` meets its contract.
use mathlib.Core.Path.{◌≡◌, sym, ◌∙◌}
use native.Mathlib.Omega.{arith}
use Rattle.std.specs.Prelude.{Ok}
use Rattle.record.proofs.Limits.{InLimits}
use Rattle.book.specs.Parts.{curve_count, curves_of}
use Rattle.book.proofs.Accepted.{sound, curve-sound}
use Rattle.bootstrap.specs.Refusals.{quote_verdict}
use Rattle.bootstrap.proofs.Kept.{id-in-book, quote-kept}
use Rattle.bootstrap.proofs.decide.quoted.Goals as goal
use Rattle.bootstrap.proofs.decide.quoted.Goals.{In_ok-quote_verdict}

pub curves_of-requires : goal.curves_of-requires
curves_of-requires c = let b = sound _ _ c.requires.accepted in omega (arith, b.blocks, b.lent)

module _ (c : In_ok-quote_verdict) where
  accepted : quote_verdict (curves_of c.args.book.now) c.args.q ≡ Ok tt
  accepted = sym (rw c.curves_of.ensures at c.quote_verdict.ensures) ∙ c.in_ok-quote_verdict.was

  id : InLimits 1 c.args.q.curve (curve_count c.args.book.now)
  id = id-in-book c.args.book.now c.args.q accepted

pub block_at-requires : goal.block_at-requires
block_at-requires c = let b = sound _ _ c.requires.accepted in omega (arith, b.blocks, b.lent, (id c).high)

pub extended-requires : goal.extended-requires
extended-requires c =
    let s = (goal.at.extended-requires c).In_ok-quote_verdict in
    let curve = (curve-sound _ _ (sound _ _ c.requires.accepted) c.args.q.curve (id s).low (id s).high).curve in
    (rw (c.curve_of.ensures, c.block_at.ensures.result_value) curve, quote-kept _ c.args.q (accepted s))
