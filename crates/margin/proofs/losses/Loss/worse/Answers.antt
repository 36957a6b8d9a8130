-- `margin::losses::Loss::worse` meets its contract.
use Rattle.margin.proofs.Stressing.{worse-other, worse-self}
use Rattle.margin.proofs.losses.Loss.worse.Goals as goal

pub returns-then-self-other : goal.returns-then-self-other
returns-then-self-other c = worse-other _ _ c.requires c.if-self-other.true

pub returns-else-self-other : goal.returns-else-self-other
returns-else-self-other c = worse-self _ _ c.requires c.if-self-other.false
