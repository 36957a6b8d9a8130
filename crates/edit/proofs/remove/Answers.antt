-- `edit::remove` meets its contract.
use mathlib.Core.Path.{◌≡◌, ◌∙◌, ap}
use Prim.Native.Nat.{◌-◌}
use native.Mathlib.Omega.{arith}
use borrow.Author.Rules.{rules}
use Rattle.layout.specs.Bytes.{AreBytes}
use Rattle.book.specs.Parts.{curve_count, trade_count}
use Rattle.book.proofs.Accepted.{sound, trade-count-most}
use Rattle.book.specs.Encode.{blocks_for}
use Rattle.edit.proofs.Fewer.{curves-same, last_block, struck-lent}
use Rattle.edit.proofs.remove.Goals as goal

pub cut_back-requires : goal.cut_back-requires
cut_back-requires c =
    let s = c.args.book.now in
    let used = c.args.used in
    let b = sound s used c.requires.0 in
    let m = trade-count-most s used b in
    let bytes : AreBytes s = λ k. search rules in
    let count = c.trade_count-left.ensures in
    let same = ap curve_count (rw count at c.move_up.ensures) ∙ curves-same s used bytes c.requires.0 c.args.position c.requires.1 in
    let size = last_block s used bytes c.requires.0 c.args.position c.requires.1 in
    omega (arith, c.move_up.auto.book)

pub returns : goal.returns
returns c =
    let s = c.args.book.now in
    let bytes : AreBytes s = λ k. search rules in
    let count = c.trade_count-left.ensures in
    let first = c.curve_count-first.ensures.value in
    let blocks : c.div_ceil.result ≡ blocks_for (trade_count s - 1) = omega (arith, c.div_ceil.ensures, count) in
    let struck = struck-lent s c.args.used bytes c.requires.0 c.args.position c.requires.1 in
    record { value = rw (first, blocks) struck.0; book_after = c.seal_blocks.ensures ∙ rw (c.cut_back.ensures, c.move_up.ensures, first, count, blocks) struck.1 }
