-- `logarithm::tables::fill_powers` meets its contract.
use mathlib.Core.Path.{sym, ap, ◌∙◌}
use Prim.Native.Nat.{ℕ, ◌*◌, ◌/◌, ◌≤◌}
use native.Mathlib.Nat.{mul-le-mul}
use native.Mathlib.Omega.{arith}
use borrow.Author.Rules.{rules}
use borrow.Author.Count.{below_more}
use lib.ListN.{length-set}
use lib.Seq.{get_or-set_same, get_or-set_other}
use Rattle.logarithm.specs.Logarithms.{power_whole}
use Rattle.logarithm.proofs.Rows.{power-is, chain-none, chain_more, chain-le, power-row-is, short-row-is}
use Rattle.logarithm.proofs.tables.fill_powers.Goals as goal

pub loop-i-init : goal.loop-i-init
loop-i-init g c =
    record { places = search rules; next = sym power-is ∙ sym (chain-none c.args.base); rows = search rules; shorts = search rules }

pub scaled-x-requires-clause-fits : goal.scaled-x-requires-clause-fits
unfolding power_whole
scaled-x-requires-clause-fits g c =
    let base = c.args.base in
    let at = c.loop-i in
    let x : at.x ≤ power_whole = omega (arith, at.invariant.next, chain-le base c.requires at.i) in
    omega (arith, mul-le-mul x c.requires)

pub loop-i-preserved : goal.loop-i-preserved
loop-i-preserved g c =
    let inv = c.loop-i.invariant in
    let base = c.args.base in
    let i = c.loop-i.i in
    record {
      places = simp length-set inv.places;
      next = c.scaled-x.ensures ∙ ap (λ (n : ℕ). n * base / 1152921504606846976) inv.next ∙ rw power-is at (sym (chain_more base i));
      rows = below_more _ _
          (λ k l. get_or-set_other c.loop-i.rows i k _ 0 (λ e. omega arith) ∙ inv.rows k l)
          (get_or-set_same c.loop-i.rows i _ 0 (omega arith) ∙ ap (λ (n : ℕ). n / 262144) inv.next ∙ sym (power-row-is base i));
      shorts = below_more _ _
          (λ k l. get_or-set_other c.loop-i.shorts i k _ 0 (λ e. omega arith) ∙ inv.shorts k l)
          (get_or-set_same c.loop-i.shorts i _ 0 (omega arith) ∙ ap (λ (n : ℕ). n / 536870912) inv.next ∙ sym (short-row-is base i));
    }
