-- `page::put_curves` meets its contract: what is written and what is left to write are together all.
use Rattle.std.proofs.Common.{◌+◌, ◌<◌, ◌≤◌, get_or, take, drop, arith, length-take, get_or-take}
use Rattle.margin.specs.Margins.{no_curve}
use Rattle.text.specs.Text.{lines_of}
use Rattle.text.proofs.Lines.{lines_next, lines_none}
use Rattle.text.proofs.Writing.{text-all, text-room, text-next, text-none}
use Rattle.page.specs.Limits.{CurveLineLimits}
use Rattle.page.specs.Page.{curve_line}
use Rattle.page.proofs.Lengths.{length-curve-line}
use Rattle.page.proofs.put_curves.Goals as goal

pub loop-i-init : goal.loop-i-init
loop-i-init c = text-all _ _ _

-- in the loop: the next curve's line is left
pub put_curve-next-requires : goal.put_curve-next-requires
put_curve-next-requires c =
    let a = c.args in
    let i = c.loop-i.i in
    let listed = take a.count a.curves in
    let this = get_or listed i no_curve in
    let below : i < a.count = omega (arith, length-take a.count a.curves) in
    let few : i + 1 ≤ 8 = omega (arith, below, c.requires.0.most) in
    let limits : CurveLineLimits this = rw (get_or-take a.count a.curves i no_curve below) (c.requires.0.each i below) in
    let next = lines_next curve_line listed i (i + 1) no_curve c.loop-i-test.true in
    let room = text-room (curve_line (i + 1) this) (lines_of curve_line (i + 1 + 1) (drop (i + 1) listed)) (rw next at c.loop-i.invariant) c.requires.1 in
    (omega (arith, length-curve-line (i + 1) this few limits, room), (few, limits))

pub loop-i-preserved : goal.loop-i-preserved
loop-i-preserved c =
    let a = c.args in
    let i = c.loop-i.i in
    let next = lines_next curve_line (take a.count a.curves) i (i + 1) no_curve c.loop-i-test.true in
    text-next (rw next at c.loop-i.invariant) c.put_curve-next.ensures

pub returns : goal.returns
returns c =
    let a = c.args in
    let i = c.loop-i.i in
    let none = lines_none curve_line (take a.count a.curves) i (i + 1) (omega arith) in
    text-none (rw none at c.loop-i.invariant)
