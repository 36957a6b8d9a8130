-- `acceptance::check` meets its contract: a book whose blocks are accepted has a header.
use mathlib.Core.Path.{sym, ◌∙◌}
use native.Mathlib.Omega.{arith}
use Rattle.book.proofs.Accepted.{sound}
use Rattle.acceptance.proofs.check.Goals as goal

pub valuation_day-requires : goal.valuation_day-requires
valuation_day-requires c = let b = sound _ _ (sym c.blocks_verdict.ensures ∙ c.in_ok-blocks_verdict.was) in omega (arith, b.blocks, b.lent)
