-- `mapping::grid::size_of` meets its contract: what is added up, with the days left, is all.
use mathlib.Core.Path.{◌≡◌, ◌∙◌, ap}
use borrow.Author.Rules.{rules}
use native.Mathlib.Omega.{arith}
use lib.IntN.{nat_abs}
use lib.ListN.{get_or}
use Rattle.netting.specs.Netting.{net_on}
use Rattle.mapping.proofs.MappedDays.{net-at, adding-first, adding-most, adding-next, adding-all, size-most}
use Rattle.mapping.proofs.grid.size_of.Goals as goal
use Rattle.mapping.proofs.grid.size_of.Goals.{After-unsigned_abs-sum}

pub loop-day-init : goal.loop-day-init
loop-day-init c = adding-first _ _ c.requires.list c.requires.places

-- the size of a day's net amount
size-is : (c : After-unsigned_abs-sum) → c.unsigned_abs-sum.result ≡ nat_abs (net_on c.args.nets.now (get_or c.args.days.now c.loop-day.day-index 0))
size-is c =
    c.unsigned_abs-sum.ensures.value ∙ ap nat_abs (net-at c.args.nets.now c.from.ensures (search rules))

pub overflow_add-sum : goal.overflow_add-sum
overflow_add-sum c =
    omega (arith, size-is c, adding-most _ _ _ _ c.loop-day.invariant c.loop-day-test.true, size-most _ _ c.requires)

pub loop-day-preserved : goal.loop-day-preserved
loop-day-preserved c = rw (size-is c) (adding-next _ _ _ _ c.loop-day.invariant c.loop-day-test.true)

pub returns : goal.returns
returns c = adding-all _ _ _ _ c.loop-day.invariant (omega arith)
