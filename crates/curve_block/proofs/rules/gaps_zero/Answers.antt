-- `curve_block::rules::gaps_zero` meets its contract.
use mathlib.Core.Path.{◌≡◌, sym, ◌∙◌}
use Prim.Native.Nat.{◌+◌}
use native.Mathlib.Nat.{sub-zero}
use native.Mathlib.Omega.{arith}
use borrow.Author.Tests.{eq-eqb, ne_eqb}
use Rattle.laws.proofs.Every.{every-passed, every-failed, every-end}
use Rattle.layout.specs.Field.{u16_at}
use Rattle.curve_block.specs.Parts.{node_place}
use Rattle.curve_block.specs.Rules.{gap_zero, gaps_zero}
use Rattle.curve_block.proofs.rules.gaps_zero.Goals as goal
use Rattle.curve_block.proofs.rules.gaps_zero.Goals.{After-u16_at}

pub loop-i-init : goal.loop-i-init
unfolding gaps_zero
loop-i-init c = rw sub-zero

-- the field is that of the turn's node
module _ (c : After-u16_at) where
  field : c.u16_at.result ≡ u16_at c.args.b.now (node_place c.loop-i.i + 2)
  field = c.u16_at.ensures.value ∙ rw c.node_place.ensures

pub returns-then-u16_at-ne0 : goal.returns-then-u16_at-ne0
returns-then-u16_at-ne0 c =
    let e = field (goal.at.returns-then-u16_at-ne0 c).After-u16_at in
    sym (c.loop-i.invariant ∙ every-failed (gap_zero c.args.b.now) c.loop-i.i _ (omega arith) (rw (← e) (ne_eqb c.u16_at.result 0 c.if-u16_at-ne0.true)))

pub loop-i-preserved : goal.loop-i-preserved
loop-i-preserved c =
    let e = field (goal.at.loop-i-preserved c).After-u16_at in
    c.loop-i.invariant ∙ every-passed (gap_zero c.args.b.now) c.loop-i.i _ (omega arith) (rw (← e) (eq-eqb c.u16_at.result 0 c.if-u16_at-ne0.false))

pub returns : goal.returns
returns c = sym (c.loop-i.invariant ∙ every-end (gap_zero c.args.b.now) _ _ (omega arith))
