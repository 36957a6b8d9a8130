-- `curve_block::rules::breaks_node` meets its contract.
use mathlib.Core.Path.{◌≡◌, refl, sym, ◌∙◌}
use mathlib.Core.Bool.{Bool}
use mathlib.Core.List.{List}
use Prim.Native.Nat.{ℕ, ◌+◌}
use native.Mathlib.Nat.{sub-zero}
use native.Mathlib.Numerals.{add-one}
use native.Mathlib.Omega.{arith}
use Rattle.laws.proofs.Every.{every-passed, every-failed, every-end}
use Rattle.curve.specs.declared.Node.{Node}
use Rattle.curve_block.specs.Parts.{node_at, node_count}
use Rattle.curve_block.specs.Rules.{node_sound, day_before, sound_at, breaks_node}
use Rattle.curve_block.proofs.rules.breaks_node.Goals as goal

-- a turn's test is that of the node
sound-is : (b : List ℕ) (i before : ℕ) (n : Node) (r : Bool) → before ≡ day_before b i → n ≡ node_at b i → r ≡ node_sound i before n → r ≡ sound_at b i
sound-is b i before n r day node is = is ∙ rw (day, node)

-- and its day the one before the next
day-next : (b : List ℕ) (i : ℕ) (n : Node) → n ≡ node_at b i → n.day ≡ day_before b (i + 1)
unfolding day_before
day-next b i n node = rw (add-one, node)

pub loop-i-init : goal.loop-i-init
unfolding breaks_node day_before
loop-i-init c = record { behind = refl; left = rw sub-zero }

pub returns-then-not-node_sound : goal.returns-then-not-node_sound
returns-then-not-node_sound c =
    let l = c.loop-i in
    let sound = sound-is c.args.b.now l.i _ _ c.node_sound.result l.invariant.behind c.node_at-node.ensures c.node_sound.ensures in
    sym (l.invariant.left ∙ rw (every-failed (sound_at c.args.b.now) l.i (node_count c.args.b.now) (omega arith) (sym sound ∙ c.if-not-node_sound.true)))

pub loop-i-preserved : goal.loop-i-preserved
loop-i-preserved c =
    let l = c.loop-i in
    let sound = sound-is c.args.b.now l.i _ _ c.node_sound.result l.invariant.behind c.node_at-node.ensures c.node_sound.ensures in
    record {
      behind = day-next c.args.b.now l.i c.node_at-node.result c.node_at-node.ensures;
      left = l.invariant.left ∙ rw (every-passed (sound_at c.args.b.now) l.i (node_count c.args.b.now) (omega arith) (sym sound ∙ c.if-not-node_sound.false));
    }

pub returns : goal.returns
returns c = sym (c.loop-i.invariant.left ∙ rw (every-end (sound_at c.args.b.now) c.loop-i.i (node_count c.args.b.now) (omega arith)))
