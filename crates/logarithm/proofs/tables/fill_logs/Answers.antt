-- `logarithm::tables::fill_logs` meets its contract.
use mathlib.Core.Path.{sym, ◌∙◌}
use Prim.Native.Nat.{◌+◌, ◌*◌}
use native.Mathlib.Omega.{arith}
use lib.Dec.{lit≤}
use borrow.Author.Rules.{rules}
use borrow.Author.Count.{below_more}
use lib.Seq.{get_or-set_same, get_or-set_other}
use Rattle.logarithm.proofs.Steps.{step-le}
use Rattle.logarithm.proofs.Rows.{log-none, log-more, log-le, slope-is}
use Rattle.logarithm.proofs.tables.fill_logs.Goals as goal

pub loop-i-init : goal.loop-i-init
loop-i-init c = search (rules, log-none)

pub loop-i-preserved : goal.loop-i-preserved
loop-i-preserved c =
    let inv = c.loop-i.invariant in
    let i = c.loop-i.i in
    record {
      next = rw (c.step-log.ensures, inv.next) (sym (log-more i));
      rows = below_more _ _
          (λ k l. get_or-set_other c.loop-i.logs i k c.loop-i.log 0 (λ e. omega arith) ∙ inv.rows k l)
          (get_or-set_same c.loop-i.logs i c.loop-i.log 0 (omega arith) ∙ inv.next);
      slopes = below_more _ _
          (λ k l. get_or-set_other c.loop-i.slopes i k _ 0 (λ e. omega arith) ∙ inv.slopes k l)
          (get_or-set_same c.loop-i.slopes i _ 0 (omega arith) ∙ sym (slope-is i));
    }

pub overflow_add-log : goal.overflow_add-log
overflow_add-log c =
    let i = c.loop-i.i in
    omega (arith, c.step-log.ensures, c.loop-i.invariant.next, log-le i, step-le (1000000 + 2048 * i) 2048 (omega arith) (lit≤ tt))
