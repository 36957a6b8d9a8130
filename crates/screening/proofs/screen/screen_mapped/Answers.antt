-- `screening::screen::screen_mapped` meets its contract.
use Rattle.screening.proofs.Refining.{filled-screened}
use Rattle.screening.proofs.screen.screen_mapped.Goals as goal

pub returns-else-pays-clause-each : goal.returns-else-pays-clause-each
returns-else-pays-clause-each c = filled-screened _ _ _ _ c.fill_values.ensures.each
