-- `fine::factor::factor` meets its contract.
use Rattle.logarithm.proofs.Rows.{exponent-le}
use Rattle.fine.specs.Fine.{log_at}
use Rattle.fine.proofs.Bound.{log-at-le}
use Rattle.fine.proofs.factor.factor.Goals as goal

pub antilog-requires : goal.antilog-requires
antilog-requires c =
    rw c.exponent.ensures (exponent-le (log_at c.args.rate) c.args.day (log-at-le c.args.rate c.requires.0) c.requires.1)
