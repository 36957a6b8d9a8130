-- `edit::add` meets its contract.
use mathlib.Core.Path.{◌≡◌, sym, ◌∙◌, ap}
use mathlib.Core.List.{List}
use Prim.Native.Nat.{ℕ, ◌-◌, ◌%◌}
use native.Mathlib.Omega.{arith}
use lib.ListN.{length}
use Rattle.layout.specs.Bytes.{AreBytes}
use Rattle.book.specs.Parts.{trade_count}
use Rattle.book.proofs.Accepted.{sound}
use Rattle.trade_edit.specs.Blocks.{with_record}
use Rattle.trade_edit.proofs.StepLaws.{length-with_record, block-left}
use Rattle.edit.proofs.Added.{filled-lent, new-block-lent}
use Rattle.edit.proofs.Given.{record-admitted, room}
use borrow.Author.Rules.{rules}
use Rattle.edit.proofs.add.Goals as goal

pub grow-requires : goal.grow-requires
grow-requires c =
    let given = c.requires in
    let w = record-admitted _ _ _ given.0 given.1 in
    let b = sound _ _ w.accepted in
    let r = room _ _ _ w.roomy (ap (λ (n : ℕ). n % 9) (sym c.trade_count-place.ensures) ∙ c.if-place-eq0.true) in
    omega arith

pub returns-then-place-eq0 : goal.returns-then-place-eq0
returns-then-place-eq0 c =
    let s = c.args.book.now in
    let used = c.args.used in
    let r = c.args.r in
    let long : length r ≡ 56 = search rules in
    let w = record-admitted s used r c.requires.0 c.requires.1 in
    let bytes : AreBytes s = λ k. search rules in
    let full = ap (λ (n : ℕ). n % 9) (sym c.trade_count-place.ensures) ∙ c.if-place-eq0.true in
    let space = room (trade_count s) used (length s) w.roomy full in
    let a = new-block-lent s used bytes w.accepted r long full space.within in
    record { value = a.0; book_after = c.grow.ensures ∙ a.1 }

pub returns : goal.returns
returns c =
    let s = c.args.book.now in
    let used = c.args.used in
    let r = c.args.r in
    let long : length r ≡ 56 = search rules in
    let w = record-admitted s used r c.requires.0 c.requires.1 in
    let b = sound s used w.accepted in
    let bytes : AreBytes s = λ k. search rules in
    let count = c.trade_count-place.ensures in
    let some : trade_count s % 9 ≡ 0 → ⊥ = rw count at c.if-place-eq0.false in
    let a = filled-lent s used bytes w.accepted r long some in
    let span : used - (used - 512) ≡ 512 = omega arith in
    let put = rw (span, count) at c.put_record.ensures in
    let left = block-left (λ (d : List ℕ). with_record d (trade_count s % 9) r) (length-with_record (trade_count s % 9) r) s (used - 512) (omega (arith, b.lent)) put in
    record { value = a.0; book_after = rw span left ∙ a.1 }
