-- `figures::worked::settlement` meets its contract.
use mathlib.Core.Path.{◌∙◌}
use native.Mathlib.Omega.{arith}
use Rattle.figures.specs.Worked.{cash_for}
use Rattle.figures.proofs.worked.settlement.Goals as goal

pub settlement_cash-requires : goal.settlement_cash-requires
settlement_cash-requires c = (c.amount.ensures.1, rw c.dirty-dirty.ensures (omega arith))

pub returns : goal.returns
unfolding cash_for
returns c =
    c.settlement_cash.ensures
    ∙ rw (c.amount.ensures.0, c.dirty-dirty.ensures, c.rate.ensures.0, c.within.ensures.0)
