-- `ladder::total::Total::with_flow` meets its contract.
use Rattle.ladder.specs.Totals.{plus_flow}
use Rattle.ladder.proofs.Totals.{off-fits, cast_fits, fits_more, read_more, fits-less, read-less}
use Rattle.ladder.proofs.total.Total.with_flow.Goals as goal
use Rattle.ladder.proofs.total.Total.with_flow.Goals.{then-f, else-f}

pub overflow_cast-worth : goal.overflow_cast-worth
overflow_cast-worth c = cast_fits c.args.self.sum _ c.requires.0.value c.requires.2

pub overflow_add-result : goal.overflow_add-result
overflow_add-result c = fits_more c.args.self.sum _ c.requires.0.value c.requires.2

pub overflow_sub-result : goal.overflow_sub-result
overflow_sub-result c = fits-less c.args.self.sum _ c.requires.0.value c.requires.2

pub overflow_add-result-2 : goal.overflow_add-result-2
overflow_add-result-2 c =
    rw c.tolerance.ensures (record { fits = off-fits _ _ _ c.requires.0.off c.requires.1.amount c.requires.1.day })

pub returns : goal.returns
unfolding plus_flow
returns c =
    elim c.if-f.branch [
      | then-f w ↦ rw (w.result-is, read_more c.args.self.sum _ c.requires.0.value c.requires.2, c.tolerance.ensures, w.if-f.true)
      | else-f w ↦ rw (w.result-is, read-less c.args.self.sum _ c.requires.0.value c.requires.2, c.tolerance.ensures, w.if-f.false)
    ]
