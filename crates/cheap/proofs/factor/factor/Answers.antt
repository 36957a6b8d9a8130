-- `cheap::factor::factor` meets its contract.
use Rattle.logarithm.proofs.Rows.{exponent-le}
use Rattle.cheap.specs.Cheap.{cheap_log}
use Rattle.cheap.proofs.CheapLogs.{cheap-log-le}
use Rattle.cheap.proofs.factor.factor.Goals as goal

pub power-requires : goal.power-requires
power-requires c =
    rw c.exponent.ensures (exponent-le (cheap_log c.args.rate) c.args.day (cheap-log-le c.args.rate c.requires.0) c.requires.1)
