-- `margin::margins::currency_margin` meets its contract: what is summed and what is left are together all.
use Rattle.margin.proofs.Currencies.{Summed}
use Rattle.margin.proofs.margins.currency_margin.Given as goal

abbrev pub invariant-loop-m : goal.invariant-loop-m
invariant-loop-m l = Summed l.currency l.curves l.t l.m-index
